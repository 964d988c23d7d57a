-- The scan by the height alone accepts exactly what the reader reads.
use Prim.Native.Nat.{ℕ, suc, ◌+◌, ◌-◌, ◌≤◌, ◌<◌}
use mathlib.Core.Bool.{Bool, true, false, cond}
use mathlib.Core.List.{List, [], ◌∷◌}
use mathlib.Core.Path.{◌≡◌, refl, sym, ap, subst, subst⁻¹, ◌∙◌}
use native.Mathlib.Numerals.{add-one}
use native.Mathlib.Omega.{arith}
use lib.Dec.{eqb, eqb-suc-zero}
use lib.ListN.{length}
use Rattle.tokens.specs.Reading.{token_at, tokens_from}
use Rattle.tokens.specs.declared.Token.{Token}
use Rattle.expressions.specs.Reading.{kind_symbol, Waiting, nothing, waits, Outcome, reads, wrong, joined, Frame, at_operand, at_operator, operand, operator}
use Rattle.expressions.specs.Inner.Scanning.{scan_step, scan_end, scan_on, right_form}
use Rattle.expressions.specs.Inner.Parts.{is_end}
use Rattle.expressions.specs.declared.Operation.{Operation}
use Rattle.std.proofs.Common.{Option, Some, None}
use Rattle.expressions.specs.declared.Scan.{Scan}
use Rattle.expressions.specs.declared.Symbol.{Symbol}
use Rattle.expressions.specs.declared.Symbol.TheVariants as Y
use Rattle.expressions.proofs.Rows.{Heads, heads, Begins, ended, some, begins, row-ended}
use Rattle.expressions.proofs.Steps.{never}

module _ (W : Type 0) (of : Token → ℕ → W) (operated : Token → Operation → W → W → W) (enclose : Token → W → W) where
  abbrev Wait : Type 0
  Wait = Waiting W of operated enclose

  abbrev Stack : Type 0
  Stack = List (Frame W of operated enclose)

  abbrev operand_v : List Token → Wait → Wait → Stack → Outcome W of operated enclose
  operand_v ts l p k = operand W of operated enclose ts l p k

  abbrev operator_v : List Token → Wait → W → Stack → Outcome W of operated enclose
  operator_v ts l v k = operator W of operated enclose ts l v k

  abbrev join : Wait → W → W
  join l v = joined W of operated enclose l v

  abbrev pub is_read : Outcome W of operated enclose → Bool
  is_read (reads v) = true
  is_read wrong = false

  abbrev OperandForm : List Token → Type 0
  OperandForm ts =
      (l p : Wait) (k : Stack) → right_form ts true (length k) ≡ is_read (operand_v ts l p k)

  abbrev OperatorForm : List Token → Type 0
  OperatorForm ts =
      (l : Wait) (v : W) (k : Stack) → right_form ts false (length k) ≡ is_read (operator_v ts l v k)

  module _ (t : Token) (ts : List Token) (f : OperandForm ts) (g : OperatorForm ts) where
    operand-turn : (s : Symbol) (l p : Wait) (k : Stack)
        → scan_on (scan_step s true (length k)) (λ q d. right_form ts q d)
        ≡ is_read (at_operand W of operated enclose t s (operator_v ts) (operand_v ts) l p k)
    operand-turn (Y.Number n) l p k = g l (join p (of t n)) k
    operand-turn Y.Opens l p k = ap (λ (d : ℕ). right_form ts true d) (add-one (length k)) ∙ f nothing nothing (record { sum = l; product = p; opening = t } ∷ k)
    operand-turn _ l p k = refl

    operator-turn : (s : Symbol) (l : Wait) (v : W) (k : Stack)
        → scan_on (scan_step s false (length k)) (λ q d. right_form ts q d)
        ≡ is_read (at_operator W of operated enclose t s (operator_v ts) (operand_v ts) l v k)
    operator-turn (Y.Number n) l v k = refl
    operator-turn (Y.Sums o) l v k = f (waits (join l v) t o) nothing k
    operator-turn (Y.Products o) l v k = f l (waits v t o) k
    operator-turn Y.Opens l v k = refl
    operator-turn Y.Shuts l v [] = refl
    operator-turn Y.Shuts l v (q ∷ k) =
        let n = length k in
        let e : suc n - 1 ≡ n = omega arith in
        rw (eqb-suc-zero n, e) (g q.sum (join q.product (enclose q.opening (join l v))) k)
    operator-turn Y.Other l v k = refl

  mutual
    unfolding operand operator right_form

    operand-form : (ts : List Token) → OperandForm ts
    operand-form [] l p k = refl
    operand-form (t ∷ ts) l p k = operand-turn t ts (λ l p k. operand-form ts l p k) (λ l v k. operator-form ts l v k) (kind_symbol t.kind) l p k

    operator-form : (ts : List Token) → OperatorForm ts
    operator-form [] l v [] = refl
    operator-form [] l v (f ∷ k) = eqb-suc-zero (length k)
    operator-form (t ∷ ts) l v k = operator-turn t ts (λ l p k. operand-form ts l p k) (λ l v k. operator-form ts l v k) (kind_symbol t.kind) l v k

  pub form-read : (ts : List Token) → right_form ts true 0 ≡ is_read (operand W of operated enclose ts nothing nothing [])
  form-read ts = operand-form ts nothing nothing []

-- ---- one token of the scan, as the code meets it

-- a token more opens one parenthesis at most
abbrev Grows : ℕ → Option Scan → Type 0
Grows h (Some r) = r.height ≤ h + 1
Grows h None = Unit {0}

grows : (y : Symbol) (q : Bool) (h : ℕ) → Grows h (scan_step y q h)
grows (Y.Number v) true h = omega arith
grows (Y.Sums o) false h = omega arith
grows (Y.Products o) false h = omega arith
grows Y.Opens true h = omega arith
grows Y.Shuts false h = go (eqb h 0)
  where
    go : (b : Bool) → Grows h (cond b None (Some (record { operand = false; height = (h - 1) })))
    go true = tt
    go false = omega arith
grows _ _ h = tt

-- what no expression has stops the scan
other-stops : (q : Bool) (h : ℕ) → scan_step Y.Other q h ≡ None
other-stops true h = refl
other-stops false h = refl

module _ (s : List ℕ) (at : ℕ) (q : Bool) (h : ℕ) {t : Token} (k : t ≡ token_at s at) where
  pub scan_ended : {e : Bool} → e ≡ is_end t.kind → e ≡ true → right_form (tokens_from s at) q h ≡ scan_end q h
  unfolding right_form
  scan_ended f g =
      ap (λ (ts : List Token). right_form ts q h) (row-ended s at (sym (f ∙ ap (λ (t : Token). is_end t.kind) k) ∙ g))

  module _ {y : Symbol} (l : y ≡ kind_symbol t.kind) {r : Option Scan} (m : r ≡ scan_step y q h) where
    pub steps_as : scan_step (kind_symbol (token_at s at).kind) q h ≡ r
    steps_as = sym (m ∙ ap (λ (y : Symbol). scan_step y q h) (l ∙ ap (λ (t : Token). kind_symbol t.kind) k))

    pub scan_wrong : is_end t.kind ≡ false → r ≡ None → right_form (tokens_from s at) q h ≡ false
    unfolding right_form
    scan_wrong g n = go (begins s at)
      where
        go : {ts : List Token} → Begins s at ts → right_form ts q h ≡ false
        go (ended x y) = let z : true ≡ false = sym x ∙ sym (ap (λ (t : Token). is_end t.kind) k) ∙ g in never (cc)
        go (some {ts} x) = ap (λ (r : Option Scan). scan_on r (λ q h. right_form ts q h)) (steps_as ∙ n)

    module _ {u : Scan} (n : r ≡ Some u) where
      pub on_by : Heads s at
      on_by =
          heads s at refl
          (λ x. let z : None ≡ Some u = sym (ap (λ (y : Symbol). scan_step y q h) x ∙ other-stops q h) ∙ steps_as ∙ n in never (cc))

      pub scan-on : right_form (tokens_from s at) q h ≡ right_form (tokens_from s t.next.at) u.operand u.height
      unfolding right_form
      scan-on =
          ap (λ (ts : List Token). right_form ts q h) on_by.row
          ∙ ap (λ (r : Option Scan). scan_on r (λ q h. right_form (tokens_from s (token_at s at).next.at) q h)) (steps_as ∙ n)
          ∙ ap (λ (t : Token). right_form (tokens_from s t.next.at) u.operand u.height) (sym k)

      pub scan_moves : (at < t.next.at) × (t.next.at ≤ length s) × (u.height ≤ h + 1)
      scan_moves =
          let b = on_by in (
            subst⁻¹ (λ (t : Token). at < t.next.at) k b.on,
            subst⁻¹ (λ (t : Token). t.next.at ≤ length s) k b.within,
            subst (Grows h) (steps_as ∙ n) (grows (kind_symbol (token_at s at).kind) q h),
          )
