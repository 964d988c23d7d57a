-- A colon that directly follows a place, by the byte there alone.
use Prim.Native.Nat.{ℕ, ◌+◌, ◌<◌}
use Prim.Native.Char.{code}
use mathlib.Core.Bool.{Bool, true, false}
use mathlib.Core.List.{List, ◌∷◌}
use mathlib.Core.Path.{◌≡◌, refl, sym, ap, subst, ◌∙◌}
use native.Mathlib.Omega.{arith}
use lib.Dec.{leb, eqb}
use lib.ListN.{length, get_or, drop, get_or-eq_default}
use lib.Seq.{drop-cons}
use borrow.Author.Tests.{leb-true, leb-false, eqb-true}
use Rattle.numerals.specs.Bytes.{is_word_byte}
use Rattle.tokens.specs.Bytes.{is_blank, is_mark}
use Rattle.tokens.specs.Rows.{token}
use Rattle.tokens.specs.Reading.{blanks, token_here, token_at}
use Rattle.tokens.specs.declared.Kind.{Kind}
use Rattle.tokens.specs.declared.Kind.TheVariants.{Mark}
use Rattle.tokens.specs.declared.Token.{Token}
use Rattle.tokens.proofs.Blanks.{blanks-stop}
use Rattle.tokens.proofs.Here.{here-mark}
use Rattle.tokens.proofs.Places.{EndsAt, token_placed}
use Rattle.tokens.proofs.Meanings.{Means, token-means}

colon_no_blank : is_blank (code ":") ≡ false
unfolding is_blank
colon_no_blank = refl

colon_no_word : is_word_byte (code ":") ≡ false
colon_no_word = refl

colon_mark : is_mark (code ":") ≡ true
unfolding is_mark is_blank
colon_mark = refl

module _ (s : List ℕ) (at : ℕ) where
  -- a `:` stands within the line, since past its end the byte is 0
  pub colon_within : get_or s at 0 ≡ code ":" → at < length s
  colon_within e = go (leb (length s) at) refl
    where
      go : (b : Bool) → leb (length s) at ≡ b → at < length s
      go true o = let z : 0 ≡ code ":" = sym (get_or-eq_default s 0 (leb-true (length s) at o)) ∙ e in absurd (omega arith)
      go false o = leb-false (length s) at o

  here_colon : get_or s at 0 ≡ code ":" → (d : Bool) → token_here s at d ≡ token (Mark (code ":")) at d (at + 1)
  here_colon e d =
      here-mark s at d (colon_within e) (ap is_word_byte e ∙ colon_no_word) (rw e) (rw e) (ap is_mark e ∙ colon_mark)
      ∙ ap (λ (b : ℕ). token (Mark b) at d (at + 1)) e

  -- where a `:` stands, it is the token there, and follows directly
  pub colon-token : get_or s at 0 ≡ code ":" → token_at s at ≡ token (Mark (code ":")) at true (at + 1)
  unfolding token_at
  colon-token e =
      let z : blanks (drop at s) ≡ 0 = blanks-stop s at (colon_within e) (ap is_blank e ∙ colon_no_blank) in
      let p : at + blanks (drop at s) ≡ at = omega arith in
      ap (λ (i : ℕ). token_here s i (eqb (blanks (drop at s)) 0)) p ∙ ap (λ (n : ℕ). token_here s at (eqb n 0)) z ∙ here_colon e true

  -- where none stands, a `:` that is the next token does not follow directly
  pub no_colon_token : eqb (get_or s at 0) (code ":") ≡ false → (token_at s at).kind ≡ Mark (code ":") → (token_at s at).directly ≡ false
  no_colon_token f k = go (token_at s at).directly refl
    where
      t : Token
      t = token_at s at

      ends : t.start < length s
      ends =
          let h : EndsAt (Mark (code ":")) (length s) t.start t.next.at =
          subst (λ (j : Kind). EndsAt j (length s) t.start t.next.at) k (token_placed s at).ends in
          omega (arith, h.0, h.1)

      begins : drop t.start s ≡ code ":" ∷ drop t.next.at s
      begins = (subst (λ (j : Kind). Means s j t.start t.next.at) k (token-means s at)).1

      there : get_or s t.start 0 ≡ code ":"
      there = let e = sym (drop-cons s t.start 0 ends) ∙ begins in cc

      go : (b : Bool) → t.directly ≡ b → t.directly ≡ false
      go true d =
          let p : t.start ≡ at = eqb-true t.start at (sym (token_placed s at).follows ∙ d) in
          let z : ◌≡◌ {A = ℕ} 0 1 = cc (there, f) in
          absurd (omega arith)
      go false d = d
