-- A line's tokens: they have one reading, or an unknown word, or wrong form, and the reader answers accordingly.
use Prim.Native.Nat.{ℕ}
use mathlib.Core.List.{List, ◌∷◌}
use mathlib.Core.Path.{◌≡◌, refl, sym, ap, subst, ◌∙◌}
use Rattle.tokens.specs.Reading.{tokens_from}
use Rattle.tokens.specs.declared.Token.{Token}
use Rattle.names.specs.declared.Word.TheVariants as W
use Rattle.std.proofs.Common.{Option, Some, None, Result, Err}
use Rattle.statements.specs.declared.Statement.{Statement}
use Rattle.statements.specs.declared.Failure.{Failure}
use Rattle.values.specs.declared.Name.{Name}
use Rattle.statements.specs.Statements.{Reading, Label, Body, LineText, labelled, unlabelled, WordIn, behind, first}
use Rattle.statements.specs.Judging.{judged}
use Rattle.statements.specs.Reading.{label_read, after_label, statement_read}
use Rattle.statements.specs.declared.Failure.TheVariants as F
use Rattle.statements.specs.declared.LineRead.{LineRead}
use Rattle.statements.proofs.Labelling.{Labels, label_is, none_is, labels, label-read, label_after, label-once, behind-label}
use Rattle.statements.proofs.Bodies.{UnknownHere, here, Found, says, unknown, wrong, found}

abbrev pub NoLabel : List Token → Type 0
NoLabel ts = (n : Name) (us : List Token) → Label ts n us → ⊥

module _ (line : List ℕ) where
  abbrev pub Unread : List Token → Type 0
  Unread ts = (l : Option Name) (r : Reading) → LineText line ts l r → ⊥

  -- ---- a line with a label, and one without

  text-behind : {ts us : List Token} {n : Name} {l : Option Name} {r : Reading} → Label ts n us → LineText line ts l r
      → (Some n ≡ l) × Body line us r
  text-behind {r = r} a (labelled b body) =
      let h = label-once a b in
      (ap Some h.0, subst (λ (vs : List Token). Body line vs r) (sym h.1) body)
  text-behind {us = us} {n = n} a (unlabelled bare body) = absurd (bare n us a)

  text-first : {ts : List Token} {l : Option Name} {r : Reading} → NoLabel ts → LineText line ts l r → (None ≡ l) × Body line ts r
  text-first none (labelled {us = us} {n = n} b body) = absurd (none n us b)
  text-first none (unlabelled bare body) = (refl, body)

  unknown-behind : {ts us : List Token} {n : Name} → Label ts n us → WordIn line W.Unknown ts → UnknownHere line us
  unknown-behind a (behind b s) = subst (UnknownHere line) (sym (label-once a b).1) (here s)
  unknown-behind {us = us} {n = n} a (first bare s) = absurd (bare n us a)

  unknown-first : {ts : List Token} → NoLabel ts → WordIn line W.Unknown ts → UnknownHere line ts
  unknown-first none (behind {us = us} {n = n} {w = w} b s) = absurd (none n (w ∷ us) b)
  unknown-first none (first bare s) = here s

  is_behind : {ts us : List Token} {n : Name} → Label ts n us → UnknownHere line us → WordIn line W.Unknown ts
  is_behind a (here s) = behind a s

  is_first : {ts : List Token} → NoLabel ts → UnknownHere line ts → WordIn line W.Unknown ts
  is_first none (here s) = first none s

  -- ---- the three cases, with the reader's answer

  abbrev pub answer : List Token → LineRead
  answer ts = record { label = label_read ts; statement = statement_read line (after_label ts) }

  pub data TextVerdict (ts : List Token) : Type 0 where
    reads : (l : Option Name) (r : Reading) → LineText line ts l r → ((l' : Option Name) (r' : Reading) → LineText line ts l' r' → (l ≡ l') × (r ≡ r'))
        → (WordIn line W.Unknown ts → ⊥) → answer ts ≡ record { label = l; statement = judged r } → TextVerdict ts
    no_such_word : WordIn line W.Unknown ts → Unread ts → (answer ts).statement ≡ Err F.UnknownWord → TextVerdict ts
    no_form : (WordIn line W.Unknown ts → ⊥) → Unread ts → (answer ts).statement ≡ Err F.WrongForm → TextVerdict ts

  answered : (ts us : List Token) {l : Option Name} {st : Result Statement Failure} → label_read ts ≡ l → after_label ts ≡ us → statement_read line us ≡ st
      → answer ts ≡ record { label = l; statement = st }
  answered ts us e f g = rw (e, f, g)

  verdict-behind : {ts us : List Token} {n : Name} → Label ts n us → Found line us → TextVerdict ts
  verdict-behind {ts} {us} {n} a (says r body once known e) =
      reads (Some n) r (labelled a body) (λ l' r' x. let h = text-behind a x in (h.0, once r' h.1)) (λ u. known (unknown-behind a u))
      (answered ts us (label-read a) (label_after a) e)
  verdict-behind a (unknown u unread e) =
      no_such_word (is_behind a u) (λ l r x. unread r (text-behind a x).1) (ap (statement_read line) (label_after a) ∙ e)
  verdict-behind a (wrong known unread e) =
      no_form (λ u. known (unknown-behind a u)) (λ l r x. unread r (text-behind a x).1) (ap (statement_read line) (label_after a) ∙ e)

  verdict-first : {ts : List Token} → NoLabel ts → label_read ts ≡ None → after_label ts ≡ ts → Found line ts → TextVerdict ts
  verdict-first {ts} none f g (says r body once known e) =
      reads None r (unlabelled none body) (λ l' r' x. let h = text-first none x in (h.0, once r' h.1)) (λ u. known (unknown-first none u))
      (answered ts ts f g e)
  verdict-first none f g (unknown u unread e) =
      no_such_word (is_first none u) (λ l r x. unread r (text-first none x).1) (ap (statement_read line) g ∙ e)
  verdict-first none f g (wrong known unread e) =
      no_form (λ u. known (unknown-first none u)) (λ l r x. unread r (text-first none x).1) (ap (statement_read line) g ∙ e)

pub text-verdict : (line : List ℕ) → TextVerdict line (tokens_from line 0)
text-verdict line = go (labels (tokens_from line 0))
  where
    go : Labels (tokens_from line 0) → TextVerdict line (tokens_from line 0)
    go (label_is n us a) =
        let h = behind-label line 0 a in
        verdict-behind line a (subst (Found line) (sym h.1) (found line h.0))
    go (none_is none f g) = verdict-first line none f g (found line 0)
