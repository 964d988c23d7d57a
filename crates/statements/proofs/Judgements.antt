-- What a reading comes to: it passes its checks, or fails with the first that fails.
use Prim.Native.Nat.{ℕ, zero, suc, ◌≤◌, ◌<◌}
use mathlib.Core.Bool.{Bool, true, false, cond}
use mathlib.Core.List.{List, [], ◌∷◌}
use mathlib.Core.Logic.{◌⊎◌, inl, inr}
use mathlib.Core.Path.{◌≡◌, refl, ap, ◌∙◌}
use native.Mathlib.Omega.{arith}
use lib.Dec.{leb}
use lib.IntN.{ℤ}
use lib.ListN.{length, get_or-eq_default}
use mir.Syntax.{w16}
use mir.Val.{of_z}
use borrow.Author.Tests.{eqb-true, le-leb, leb-true, leb-false}
use Rattle.std.proofs.Common.{Option, Some, None, Result, Ok, Err}
use Rattle.expressions.specs.declared.Fault.TheVariants.{OutOfRange, ByZero}
use Rattle.operands.specs.declared.OperandsFault.TheVariants as I
use Rattle.isa.specs.Opcodes.{count_of}
use Rattle.isa.specs.declared.Opcode.{Opcode}
use Rattle.isa.proofs.Top.{few-operands}
use Rattle.codes.specs.Limits.{deepest}
use Rattle.expressions.specs.Trees.{Tree, depth}
use Rattle.expressions.specs.Worths.{worth_of}
use Rattle.expressions.specs.Worths.{Worth}
use Rattle.operands.specs.Checks.{right_count, kind_allowed, fits, operand_at, word_of, given}
use Rattle.operands.specs.Checks as Operands
use Rattle.operands.specs.declared.Written.{Written}
use Rattle.operands.specs.declared.Written.TheVariants.{Absent}
use Rattle.operands.proofs.Exactly.{judged-fitting, third_allowed}
use Rattle.items.specs.Items.{Item, cells_of, all_in_range}
use Rattle.statements.specs.Statements.{Reading, nothing, instruction, org, equ, res, cells, end}
use Rattle.statements.specs.FirstFailing.{Check, check, Pass, First}
use Rattle.statements.specs.Checks.{least_unsigned, least_signed, result_in, WrongCount, WrongKind, WrongKindAt, TooDeep, NumberOut, ZeroDivisor, ResultOut}
use Rattle.statements.specs.Judging.{result_of, worth_result, tree_result, instruction_result, judged}
use Rattle.statements.specs.declared.Failure.{Failure}
use Rattle.statements.specs.declared.Failure.TheVariants as F
use Rattle.statements.specs.declared.Statement.{Statement}
use Rattle.statements.specs.declared.Statement.TheVariants.{Nothing, Instruction, Org, Equ, Res, Data, End}
use Rattle.statements.proofs.Labelling.{never}

-- an answer that says what some checks come to
pub data Outcome (cs : List (Check Failure)) (x : Result Statement Failure) : Type 0 where
  passes : (s : Statement) → x ≡ Ok s → Pass cs → Outcome cs x
  refused : (f : Failure) → x ≡ Err f → First cs f → Outcome cs x

-- the checks of a reading, in the order of a line's
abbrev pub reading_checks : Reading → List (Check Failure)
reading_checks r =
    check F.WrongCount (WrongCount r)
    ∷ check (F.WrongKind 1) (WrongKindAt 0 r)
    ∷ check (F.WrongKind 2) (WrongKindAt 1 r)
    ∷ check F.TooDeep (TooDeep r)
    ∷ check F.OutOfRange (NumberOut r)
    ∷ check F.ByZero (ZeroDivisor r)
    ∷ check F.ResultOut (ResultOut r)
    ∷ []

no : {X : Type 0} → ⊥ → X
no z = absurd z

-- where there is no opcode, the checks of its operands pass
module _ (cs : List (Check Failure)) where
  abbrev no_operands : List (Check Failure)
  no_operands = check F.WrongCount ⊥ ∷ check (F.WrongKind 1) ⊥ ∷ check (F.WrongKind 2) ⊥ ∷ cs

  first-behind : (f : Failure) → First cs f → First no_operands f
  unfolding First
  first-behind f h = inr (no, inr (no, inr (no, h)))

  pass-behind : Pass cs → Pass no_operands
  unfolding Pass
  pass-behind p = (no, (no, (no, p)))

-- ---- an expression

module _ (least : ℤ) (makes : ℕ → Statement) (e : Tree) where
  abbrev tree_checks : List (Check Failure)
  tree_checks =
      check F.TooDeep (deepest < depth e)
      ∷ check F.OutOfRange (worth_of e ≡ Err OutOfRange)
      ∷ check F.ByZero (worth_of e ≡ Err ByZero)
      ∷ check F.ResultOut ((z : ℤ) × (worth_of e ≡ Ok z) × (result_in least z ≡ false))
      ∷ []

  tree_judgement : Outcome (no_operands tree_checks) (tree_result least makes e)
  unfolding tree_result result_of First Pass
  tree_judgement = by_depth (leb (depth e) deepest) refl
    where
      fails : (f : Failure) {x : Result Statement Failure} → x ≡ Err f → First tree_checks f → Outcome (no_operands tree_checks) x
      fails f q h = refused f q (first-behind tree_checks f h)

      by_result : (z : ℤ) (b : Bool) → worth_of e ≡ Ok z → result_in least z ≡ b → depth e ≤ deepest
          → Outcome (no_operands tree_checks) (cond b (Ok (makes (of_z w16 z))) (Err F.ResultOut))
      by_result z true q r h =
          passes (makes (of_z w16 z)) refl
          (pass-behind tree_checks (λ d. omega arith, (λ o. never (cc), (λ o. never (cc), (λ o. other o.0 o.1 o.2, tt)))))
        where
          other : (y : ℤ) → worth_of e ≡ Ok y → result_in least y ≡ false → ⊥
          other y p f =
              let i : z ≡ y = cc in
              let g : true ≡ false = rw (← r) (ap (result_in least) i ∙ f) in
              never (cc)
      by_result z false q r h =
          fails F.ResultOut refl (inr (λ d. omega arith, inr (λ o. never (cc), inr (λ o. never (cc), inl ((z, q, r), refl)))))

      by_worth : (w : Worth) → worth_of e ≡ w → depth e ≤ deepest → Outcome (no_operands tree_checks) (worth_result least makes w)
      by_worth (Ok z) q h = by_result z (result_in least z) q refl h
      by_worth (Err OutOfRange) q h = fails F.OutOfRange refl (inr (λ d. omega arith, inl (q, refl)))
      by_worth (Err ByZero) q h = fails F.ByZero refl (inr (λ d. omega arith, inr (λ o. never (cc), inl (q, refl))))

      by_depth : (b : Bool) → leb (depth e) deepest ≡ b
          → Outcome (no_operands tree_checks) (cond b (worth_result least makes (worth_of e)) (Err F.TooDeep))
      by_depth true q = by_worth (worth_of e) refl (leb-true (depth e) deepest q)
      by_depth false q = fails F.TooDeep refl (inl (leb-false (depth e) deepest q, refl))

-- ---- an opcode's operands

module _ (op : Opcode) (os : List Written) where
  -- there is no third operand
  no_third : (i : ℕ) → right_count op os ≡ true → word_of (operand_at os (suc (suc i))) ≡ Some 0
  unfolding word_of
  no_third i c =
      let few = eqb-true (length os) (count_of op) c in
      ap word_of (get_or-eq_default os Absent (omega (arith, few, few-operands op)))

  operands-judgement : Outcome (reading_checks (instruction op os)) (instruction_result op (Operands.judged op os))
  unfolding Operands.judged First Pass
  operands-judgement = by_kinds (right_count op os) (kind_allowed op os 0) (kind_allowed op os 1) refl refl refl
    where
      a : Written
      a = operand_at os 0

      b : Written
      b = operand_at os 1

      counted : right_count op os ≡ true → right_count op os ≡ false → ⊥
      counted c z = never (cc)

      allowed : (i : ℕ) → kind_allowed op os i ≡ true → (right_count op os ≡ true) × (kind_allowed op os i ≡ false) → ⊥
      allowed i k z = let g = z.1 in never (cc)

      by_words : (x y : Option ℕ) → word_of a ≡ x → word_of b ≡ y → right_count op os ≡ true → kind_allowed op os 0 ≡ true → kind_allowed op os 1 ≡ true
          → Outcome (reading_checks (instruction op os)) (instruction_result op (Operands.ranged a x b y))
      by_words (Some x) (Some y) p q c k l =
          passes (Instruction op (given a x) (given b y)) refl
          (counted c, (allowed 0 k, (allowed 1 l, (no, (λ o. none_at o.0 o.1, (no, (no, tt)))))))
        where
          none_at : (i : ℕ) → word_of (operand_at os i) ≡ None → ⊥
          none_at zero o = never (cc)
          none_at (suc zero) o = never (cc)
          none_at (suc (suc i)) o = let g = no_third i c in never (cc)
      by_words (Some x) None p q c k l =
          refused F.OutOfRange refl (inr (counted c, inr (allowed 0 k, inr (allowed 1 l, inr (no, inl ((1, q), refl))))))
      by_words None y p q c k l =
          refused F.OutOfRange refl (inr (counted c, inr (allowed 0 k, inr (allowed 1 l, inr (no, inl ((0, p), refl))))))

      by_kinds : (x y z : Bool) → right_count op os ≡ x → kind_allowed op os 0 ≡ y → kind_allowed op os 1 ≡ z
          → Outcome (reading_checks (instruction op os))
          (instruction_result op (cond x (cond y (cond z (Operands.ranged a (word_of a) b (word_of b)) (Err (I.WrongKind 2))) (Err (I.WrongKind 1))) (Err I.WrongCount)))
      by_kinds true true true c k l = by_words (word_of a) (word_of b) refl refl c k l
      by_kinds true true false c k l = refused (F.WrongKind 2) refl (inr (counted c, inr (allowed 0 k, inl ((c, l), refl))))
      by_kinds true false z c k l = refused (F.WrongKind 1) refl (inr (counted c, inl ((c, k), refl)))
      by_kinds false y z c k l = refused F.WrongCount refl (inl (c, refl))

-- an operand that is wrong in kind is the first or the second
pub kinds-apart : (r : Reading) → WrongKind r → WrongKindAt 0 r ⊎ WrongKindAt 1 r
kinds-apart nothing h = absurd h
kinds-apart (instruction op os) (c, h) = go h.0 h.1
  where
    go : (i : ℕ) → kind_allowed op os i ≡ false → WrongKindAt 0 (instruction op os) ⊎ WrongKindAt 1 (instruction op os)
    go zero k = inl (c, k)
    go (suc zero) k = inr (c, k)
    go (suc (suc i)) k = let g = third_allowed op os i c in never (cc)
kinds-apart (org e) h = absurd h
kinds-apart (equ e) h = absurd h
kinds-apart (res e) h = absurd h
kinds-apart (cells is) h = absurd h
kinds-apart end h = absurd h

pub wrong-somewhere : (i : ℕ) (r : Reading) → WrongKindAt i r → WrongKind r
wrong-somewhere i nothing h = absurd h
wrong-somewhere i (instruction op os) (c, k) = (c, (i, k))
wrong-somewhere i (org e) h = absurd h
wrong-somewhere i (equ e) h = absurd h
wrong-somewhere i (res e) h = absurd h
wrong-somewhere i (cells is) h = absurd h
wrong-somewhere i end h = absurd h

-- ---- DATA

items-judgement : (is : List Item) → Outcome (reading_checks (cells is)) (cond (all_in_range is) (Ok (Data (length (cells_of is)))) (Err F.OutOfRange))
unfolding First Pass
items-judgement is = go (all_in_range is) refl
  where
    go : (b : Bool) → all_in_range is ≡ b → Outcome (reading_checks (cells is)) (cond b (Ok (Data (length (cells_of is)))) (Err F.OutOfRange))
    go true q = passes (Data (length (cells_of is))) refl (no, (no, (no, (no, (λ o. never (cc), (no, (no, tt)))))))
    go false q = refused F.OutOfRange refl (inr (no, inr (no, inr (no, inr (no, inl (q, refl))))))

-- ---- any reading

none_fail : Pass (no_operands (check F.TooDeep ⊥ ∷ check F.OutOfRange ⊥ ∷ check F.ByZero ⊥ ∷ check F.ResultOut ⊥ ∷ []))
unfolding Pass
none_fail = (no, (no, (no, (no, (no, (no, (no, tt)))))))

pub judgement : (r : Reading) → Outcome (reading_checks r) (judged r)
unfolding judged
judgement nothing = passes Nothing refl none_fail
judgement (instruction op os) = operands-judgement op os
judgement (org e) = tree_judgement least_unsigned Org e
judgement (equ e) = tree_judgement least_signed Equ e
judgement (res e) = tree_judgement least_unsigned Res e
judgement (cells is) = items-judgement is
judgement end = passes End refl none_fail

-- ---- what a reading says that passes

module _ (op : Opcode) (os : List Written) where
  -- the operands with their words
  pub instruction-says : {x y : ℕ} → fits op os ≡ true → word_of (operand_at os 0) ≡ Some x → word_of (operand_at os 1) ≡ Some y
      → judged (instruction op os) ≡ Ok (Instruction op (given (operand_at os 0) x) (given (operand_at os 1) y))
  unfolding judged
  instruction-says f p q = ap (instruction_result op) (judged-fitting op os f) ∙ rw (p, q)

-- the statements that have an expression: the least result, and what they say of a result
pub data Asks : Reading → ℤ → (ℕ → Statement) → Tree → Type 0 where
  for_org : {e : Tree} → Asks (org e) least_unsigned Org e
  for_equ : {e : Tree} → Asks (equ e) least_signed Equ e
  for_res : {e : Tree} → Asks (res e) least_unsigned Res e

by_tree : {r : Reading} {least : ℤ} {makes : ℕ → Statement} {e : Tree} → Asks r least makes e → judged r ≡ tree_result least makes e
unfolding judged
by_tree for_org = refl
by_tree for_equ = refl
by_tree for_res = refl

-- the result, "kept modulo 65536"
pub expression-says : {r : Reading} {least z : ℤ} {makes : ℕ → Statement} {e : Tree} → Asks r least makes e → depth e ≤ deepest
    → worth_of e ≡ Ok z
    → result_in least z ≡ true
    → judged r ≡ Ok (makes (of_z w16 z))
unfolding tree_result result_of
expression-says {least = least} {z} {makes} {e} a h f g = by_tree a ∙ rw (le-leb (depth e) deepest h, f) (rw g)

-- the number of its cells
pub items_say : (is : List Item) → all_in_range is ≡ true → judged (cells is) ≡ Ok (Data (length (cells_of is)))
unfolding judged
items_say is f = rw f
