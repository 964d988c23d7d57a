-- A whole line: it has one reading, or an unknown word, or wrong form, and the reader answers with the first check that fails.
use Prim.Native.Nat.{ℕ}
use mathlib.Core.List.{List, [], ◌∷◌}
use mathlib.Core.Logic.{◌↔◌, ◌⊎◌, inl, inr}
use mathlib.Core.Path.{◌≡◌, refl, sym, ap, subst, ◌∙◌}
use native.Mathlib.Omega.{arith}
use Rattle.tokens.specs.Rows.{RowOf}
use Rattle.tokens.specs.Reading.{tokens_from}
use Rattle.tokens.specs.declared.Token.{Token}
use Rattle.tokens.proofs.Top.{line_row, one-row}
use Rattle.names.specs.declared.Word.TheVariants as W
use Rattle.std.proofs.Common.{Option, Some, None, Result, Ok, Err}
use Rattle.values.specs.declared.Name.{Name}
use Rattle.statements.specs.Statements.{Reading, end, Label, ends, LineText, labelled, unlabelled, WordIn, behind, first, Says, Labelled, HasWord, UnknownWord, NoReading}
use Rattle.statements.specs.FirstFailing.{Check, check, Pass, First}
use Rattle.statements.specs.Checks.{WrongCount, WrongKind, WrongKindAt, TooDeep, NumberOut, ZeroDivisor, ResultOut, OfReading, checks, failures}
use Rattle.statements.specs.Judging.{number_of, judged}
use Rattle.statements.specs.Reading.{line_read}
use Rattle.statements.specs.declared.Failure.{Failure}
use Rattle.statements.specs.declared.Failure.TheVariants as F
use Rattle.statements.specs.declared.LineRead.{LineRead}
use Rattle.statements.specs.declared.Statement.{Statement}
use Rattle.statements.proofs.FirstFails.{first-once, pass-none, first_head, Alike, first_alike, pass-alike, answered, first-answered, pass-answered, first-joined, pass-joined}
use Rattle.statements.proofs.Judgements.{Outcome, passes, refused, reading_checks, judgement, kinds-apart, wrong-somewhere}
use Rattle.statements.proofs.Labelling.{never, Labels, label_is, none_is, labels, label-read}
use Rattle.statements.proofs.Texts.{TextVerdict, text-verdict}
use Rattle.statements.proofs.Texts as T

module _ (line : List ℕ) where
  -- the line's one row
  abbrev row : List Token
  row = tokens_from line 0

  its-row : {ts : List Token} → RowOf line ts → ts ≡ row
  its-row r = one-row r (line_row line)

  text-here : {l : Option Name} {r : Reading} → Says line l r → LineText line row l r
  text-here {l} {r} x = subst (λ (ts : List Token). LineText line ts l r) (its-row x.row) x.text

  word-here : UnknownWord line → WordIn line W.Unknown row
  word-here u = subst (WordIn line W.Unknown) (its-row u.row) u.word

  pub data Verdict : Type 0 where
    reads : (l : Option Name) (r : Reading) → Says line l r → ((l' : Option Name) (r' : Reading) → Says line l' r' → (l ≡ l') × (r ≡ r'))
        → (UnknownWord line → ⊥) → line_read line ≡ record { label = l; statement = judged r } → Verdict
    no_such_word : UnknownWord line → NoReading line → (line_read line).statement ≡ Err F.UnknownWord → Verdict
    no_form : (UnknownWord line → ⊥) → NoReading line → (line_read line).statement ≡ Err F.WrongForm → Verdict

  pub verdict : Verdict
  unfolding line_read
  verdict = go (text-verdict line)
    where
      go : TextVerdict line row → Verdict
      go (T.reads l r t once known e) =
          reads l r (record { tokens = row; row = line_row line; text = t }) (λ l' r' x. once l' r' (text-here x)) (λ u. known (word-here u)) e
      go (T.no_such_word u unread e) =
          no_such_word (record { tokens = row; row = line_row line; word = u }) (λ l r x. unread l r (text-here x)) e
      go (T.no_form known unread e) = no_form (λ u. known (word-here u)) (λ l r x. unread l r (text-here x)) e

  -- ---- one reading

  pub one-reading : {l l' : Option Name} {r r' : Reading} → Says line l r → Says line l' r' → (l ≡ l') × (r ≡ r')
  one-reading {l} {l'} {r} {r'} x y = go verdict
    where
      go : Verdict → (l ≡ l') × (r ≡ r')
      go (reads m q t once known e) = (sym (once l r x).0 ∙ (once l' r' y).0, sym (once l r x).1 ∙ (once l' r' y).1)
      go (no_such_word u unread e) = absurd (unread l r x)
      go (no_form known unread e) = absurd (unread l r x)

  pub read-judged : {l : Option Name} {r : Reading} → Says line l r → line_read line ≡ record { label = l; statement = judged r }
  read-judged {l} {r} x = go verdict
    where
      go : Verdict → line_read line ≡ record { label = l; statement = judged r }
      go (reads m q t once known e) = let h = once l r x in rw (← h.0, ← h.1) e
      go (no_such_word u unread e) = absurd (unread l r x)
      go (no_form known unread e) = absurd (unread l r x)

  pub says-known : {l : Option Name} {r : Reading} → Says line l r → UnknownWord line → ⊥
  says-known {l} {r} x u = go verdict
    where
      go : Verdict → ⊥
      go (reads m q t once known e) = known u
      go (no_such_word u unread e) = unread l r x
      go (no_form known unread e) = known u

  -- ---- the first check that fails

  -- the checks of the line's reading
  abbrev readings : List (Check Failure)
  readings =
      check F.WrongCount (OfReading line WrongCount)
      ∷ check (F.WrongKind 1) (OfReading line (WrongKindAt 0))
      ∷ check (F.WrongKind 2) (OfReading line (WrongKindAt 1))
      ∷ check F.TooDeep (OfReading line TooDeep)
      ∷ check F.OutOfRange (OfReading line NumberOut)
      ∷ check F.ByZero (OfReading line ZeroDivisor)
      ∷ check F.ResultOut (OfReading line ResultOut)
      ∷ []

  module _ {l : Option Name} {r : Reading} (x : Says line l r) where
    -- what holds of the reading holds of the line's reading, as there is no other
    of_reading : (P : Reading → Type 0) → P r ↔ OfReading line P
    of_reading P = (λ p. (l, r, x, p), λ h. subst P (sym (one-reading x h.2).1) h.3)

    alike : Alike (reading_checks r) readings
    unfolding Alike
    alike = (
      refl,
      of_reading WrongCount,
      (
        refl,
        of_reading (WrongKindAt 0),
        (
          refl,
          of_reading (WrongKindAt 1),
          (refl, of_reading TooDeep, (refl, of_reading NumberOut, (refl, of_reading ZeroDivisor, (refl, of_reading ResultOut, tt)))),
        ),
      ),
    )

    read-outcome : Outcome (reading_checks r) (judged r) → (line_read line).statement ≡ judged r → Outcome (failures line) (line_read line).statement
    unfolding failures First Pass
    read-outcome (passes s e p) f =
        passes s (f ∙ e) (says-known x, (λ n. n l r x, pass-alike (reading_checks r) readings alike p))
    read-outcome (refused g e h) f =
        refused g (f ∙ e) (inr (says-known x, inr (λ n. n l r x, first_alike (reading_checks r) readings g alike h)))

  pub outcome : Outcome (failures line) (line_read line).statement
  unfolding failures First
  outcome = go verdict
    where
      go : Verdict → Outcome (failures line) (line_read line).statement
      go (reads l r x once known e) = read-outcome x (judgement r) (ap (λ (a : LineRead). a.statement) e)
      go (no_such_word u unread e) = refused F.UnknownWord e (inl (u, refl))
      go (no_form known unread e) = refused F.WrongForm e (inr (known, inl (unread, refl)))

  pub fails-exactly : (f : Failure) → ((line_read line).statement ≡ Err f) ↔ First (failures line) f
  fails-exactly f = (λ e. out e outcome, λ h. back h outcome)
    where
      out : (line_read line).statement ≡ Err f → Outcome (failures line) (line_read line).statement → First (failures line) f
      out e (passes s g p) = never (cc)
      out e (refused k g h) = let i : k ≡ f = cc in subst (First (failures line)) i h

      back : First (failures line) f → Outcome (failures line) (line_read line).statement → (line_read line).statement ≡ Err f
      back h (passes s g p) = absurd (pass-none (failures line) f p h)
      back h (refused k g h') = g ∙ ap Err (first-once (failures line) h' h)

  -- ---- by their numbers

  abbrev behind_kinds : List (Check ℕ)
  behind_kinds =
      check 8 (OfReading line TooDeep)
      ∷ check 6 (OfReading line NumberOut)
      ∷ check 7 (OfReading line ZeroDivisor)
      ∷ check 6 (OfReading line ResultOut)
      ∷ []

  -- of the line's reading
  abbrev numbered : List (Check ℕ)
  numbered = check 15 (OfReading line WrongCount) ∷ check 16 (OfReading line WrongKind) ∷ behind_kinds

  -- the two checks of kinds are one
  kinds-are : OfReading line WrongKind → OfReading line (WrongKindAt 0) ⊎ OfReading line (WrongKindAt 1)
  kinds-are (l, r, x, h) = go (kinds-apart r h)
    where
      go : WrongKindAt 0 r ⊎ WrongKindAt 1 r → OfReading line (WrongKindAt 0) ⊎ OfReading line (WrongKindAt 1)
      go (inl k) = inl (l, r, x, k)
      go (inr k) = inr (l, r, x, k)

  kind_is : (i : ℕ) → OfReading line (WrongKindAt i) → OfReading line WrongKind
  kind_is i (l, r, x, h) = (l, r, x, wrong-somewhere i r h)

  joined : (n : ℕ) → First (answered number_of (failures line)) n → First (checks line) n
  unfolding checks failures First
  joined n (inl f) = inl f
  joined n (inr (u, inl f)) = inr (u, inl f)
  joined n (inr (u, inr (w, inl f))) = inr (u, inr (w, inl f))
  joined n (inr (u, inr (w, inr (c, h)))) = inr (u, inr (w, inr (c, first-joined 16 kinds-are behind_kinds (kind_is 0) (kind_is 1) n h)))

  first-number : (f : Failure) → First (failures line) f → First (checks line) (number_of f)
  first-number f h = joined (number_of f) (first-answered number_of (failures line) f h)

  pass-numbers : Pass (failures line) → Pass (checks line)
  unfolding checks failures Pass
  pass-numbers p =
      let q = pass-answered number_of (failures line) p in
      (q.0, (q.1.0, (q.1.1.0, pass-joined 16 kinds-are behind_kinds q.1.1.1)))

  pub refused-exactly : (n : ℕ) → ((f : Failure) × ((line_read line).statement ≡ Err f) × (number_of f ≡ n)) ↔ First (checks line) n
  refused-exactly n = (λ h. subst (First (checks line)) h.2 (first-number h.0 ((fails-exactly h.0).0 h.1)), λ f. back f outcome)
    where
      back : First (checks line) n → Outcome (failures line) (line_read line).statement
          → (f : Failure) × ((line_read line).statement ≡ Err f) × (number_of f ≡ n)
      back f (passes s g p) = absurd (pass-none (checks line) n (pass-numbers p) f)
      back f (refused k g h) = (k, g, first-once (checks line) (first-number k h) f)

  pub passes-exactly : ((s : Statement) × ((line_read line).statement ≡ Ok s)) ↔ Pass (checks line)
  passes-exactly = (λ h. out h.0 h.1 outcome, λ p. back p outcome)
    where
      out : (s : Statement) → (line_read line).statement ≡ Ok s → Outcome (failures line) (line_read line).statement → Pass (checks line)
      out s e (passes s' g p) = pass-numbers p
      out s e (refused k g h) = never (cc)

      back : Pass (checks line) → Outcome (failures line) (line_read line).statement → (s : Statement) × ((line_read line).statement ≡ Ok s)
      back p (passes s g q) = (s, g)
      back p (refused k g h) = absurd (pass-none (checks line) (number_of k) p (first-number k h))

  -- ---- 4, and 3

  pub unknown-exactly : ((line_read line).statement ≡ Err F.UnknownWord) ↔ UnknownWord line
  unfolding checks
  unknown-exactly =
      (λ e. first_head 4 (check 4 (UnknownWord line)) (check 3 (NoReading line) ∷ numbered) refl ((refused-exactly 4).0 (F.UnknownWord, e, refl)), λ u. go u verdict)
    where
      go : UnknownWord line → Verdict → (line_read line).statement ≡ Err F.UnknownWord
      go u (reads l r x once known e) = absurd (known u)
      go u (no_such_word v unread e) = e
      go u (no_form known unread e) = absurd (known u)

  pub form-exactly : ((line_read line).statement ≡ Err F.WrongForm) ↔ ((UnknownWord line → ⊥) × NoReading line)
  unfolding checks First
  form-exactly = (λ e. out ((refused-exactly 3).0 (F.WrongForm, e, refl)), λ h. back h verdict)
    where
      out : First (checks line) 3 → (UnknownWord line → ⊥) × NoReading line
      out (inl f) = absurd (omega (arith, f.1))
      out (inr f) = (f.0, first_head 3 (check 3 (NoReading line)) numbered refl f.1)

      back : (UnknownWord line → ⊥) × NoReading line → Verdict → (line_read line).statement ≡ Err F.WrongForm
      back h (reads l r x once known e) = absurd (h.1 l r x)
      back h (no_such_word u unread e) = absurd (h.0 u)
      back h (no_form known unread e) = e

  pub every-line : ((l : Option Name) × (r : Reading) × Says line l r) ⊎ (UnknownWord line ⊎ ((UnknownWord line → ⊥) × NoReading line))
  every-line = go verdict
    where
      go : Verdict → ((l : Option Name) × (r : Reading) × Says line l r) ⊎ (UnknownWord line ⊎ ((UnknownWord line → ⊥) × NoReading line))
      go (reads l r x once known e) = inl (l, r, x)
      go (no_such_word u unread e) = inr (inl u)
      go (no_form known unread e) = inr (inr (known, unread))

  -- ---- what passes

  pub says-exactly : {l : Option Name} {s : Statement}
      → (line_read line ≡ record { label = l; statement = Ok s }) ↔ ((r : Reading) × Says line l r × (judged r ≡ Ok s))
  says-exactly {l} {s} = (λ e. out e verdict, λ h. read-judged h.1 ∙ ap (λ (x : Result Statement Failure). record { label = l; statement = x }) h.2)
    where
      out : line_read line ≡ record { label = l; statement = Ok s } → Verdict → (r : Reading) × Says line l r × (judged r ≡ Ok s)
      out e (reads m r x once known f) =
          let g : m ≡ l = ap (λ (a : LineRead). a.label) (sym f ∙ e) in
          let h : judged r ≡ Ok s = ap (λ (a : LineRead). a.statement) (sym f ∙ e) in
          (r, subst (λ (k : Option Name). Says line k r) g x, h)
      out e (no_such_word u unread f) = let g : Ok s ≡ Err F.UnknownWord = ap (λ (a : LineRead). a.statement) (sym e) ∙ f in never (cc)
      out e (no_form known unread f) = let g : Ok s ≡ Err F.WrongForm = ap (λ (a : LineRead). a.statement) (sym e) ∙ f in never (cc)

  -- ---- END

  -- nothing is asked of what follows its word
  pub end-exactly : ((l : Option Name) × Says line l end) ↔ HasWord line W.End
  end-exactly = (λ h. record { tokens = h.1.tokens; row = h.1.row; word = out h.1.text }, λ h. back h.row h.word)
    where
      out : {ts : List Token} {l : Option Name} → LineText line ts l end → WordIn line W.End ts
      out (labelled a (ends s)) = behind a s
      out (unlabelled none (ends s)) = first none s

      back : {ts : List Token} → RowOf line ts → WordIn line W.End ts → (l : Option Name) × Says line l end
      back {ts} r (behind {n = n} a s) = (Some n, record { tokens = ts; row = r; text = labelled a (ends s) })
      back {ts} r (first none s) = (None, record { tokens = ts; row = r; text = unlabelled none (ends s) })

  -- ---- the label

  pub label-exactly : (n : Name) → ((line_read line).label ≡ Some n) ↔ Labelled line n
  unfolding line_read
  label-exactly n = (λ e. out (labels row) e, λ h. label-read (subst (λ (ts : List Token). Label ts n h.rest) (its-row h.row) h.label))
    where
      out : Labels row → (line_read line).label ≡ Some n → Labelled line n
      out (label_is m us a) e =
          let q : m ≡ n = cc (label-read a) in
          record { tokens = row; rest = us; row = line_row line; label = subst (λ (k : Name). Label row k us) q a }
      out (none_is none f g) e = never (cc)

  pub no_label_exactly : ((line_read line).label ≡ None) ↔ ((n : Name) → Labelled line n → ⊥)
  no_label_exactly = (λ e n h. let f = (label-exactly n).1 h in never (cc), λ none. go (line_read line).label refl none)
    where
      go : (l : Option Name) → (line_read line).label ≡ l → ((n : Name) → Labelled line n → ⊥) → l ≡ None
      go None e none = refl
      go (Some n) e none = absurd (none n ((label-exactly n).0 e))
