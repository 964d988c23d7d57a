-- Where a line's label and what follows its statement's word stand; so neither passes the line's end.
use Prim.Native.Nat.{ℕ, ◌≤◌, ◌<◌}
use mathlib.Core.List.{List}
use mathlib.Core.Path.{◌≡◌, sym, subst}
use native.Mathlib.Omega.{arith}
use lib.ListN.{length}
use Rattle.isa.specs.declared.Opcode.{Opcode}
use Rattle.tokens.specs.Rows.{RowOf}
use Rattle.tokens.specs.Reading.{tokens_from}
use Rattle.tokens.specs.declared.Kind.{Kind}
use Rattle.tokens.specs.declared.Token.{Token}
use Rattle.tokens.proofs.Places.{EndsAt}
use Rattle.tokens.proofs.Top.{line_row, one-row, row_ordered}
use Rattle.std.proofs.Common.{Option}
use Rattle.values.specs.declared.Name.{Name}
use Rattle.operands.specs.Operands.{OperandField}
use Rattle.operands.specs.declared.Written.{Written}
use Rattle.items.specs.Items.{Item, Items, cells_of}
use Rattle.items.proofs.Bounds as Items
use Rattle.items.proofs.Top.{items-exactly}
use Rattle.statements.specs.Statements.{Reading, instruction, cells, Label, label, Body, opcode, items, LineText, labelled, unlabelled, Says, Labelled}
use Rattle.statements.proofs.Labelling.{never, goes_on_lem, behind-label}

-- ---- the label

within : (line : List ℕ) {ts us : List Token} {n : Name} → RowOf line ts → Label ts n us → (n.start < n.end) × (n.end ≤ length line)
within line r (label {w} k m d) =
    let p = (row_ordered r).0 in
    subst (λ (x : Kind). EndsAt x (length line) w.start w.next.at) k p.ends

pub label-within : (line : List ℕ) {n : Name} → Labelled line n → (n.start < n.end) × (n.end ≤ length line)
label-within line h = within line h.row h.label

-- ---- what follows the statement's word

module _ (line : List ℕ) where
  -- what holds of a body from some place of the line on holds of the line
  module _ {r : Reading} {X : Type 0} (body : (at : ℕ) (us : List Token) → tokens_from line at ≡ us → Body line us r → X) where
    from-text : {ts : List Token} {l : Option Name} → tokens_from line 0 ≡ ts → LineText line ts l r → X
    from-text e (labelled {us = us} {n = n} a b) =
        let h = behind-label line 0 (subst (λ (ts : List Token). Label ts n us) (sym e) a) in
        body h.0 us (sym h.1) b
    from-text {ts} e (unlabelled none b) = body 0 ts e b

    from-says : {l : Option Name} → Says line l r → X
    from-says x = from-text (one-row (line_row line) x.row) x.text

  -- the place right behind the word
  pub items-from : {l : Option Name} {is : List Item} → Says line l (cells is) → (at : ℕ) × Items line (tokens_from line at) is
  items-from {is = is} x = from-says go x
    where
      go : (at : ℕ) (us : List Token) → tokens_from line at ≡ us → Body line us (cells is) → (from : ℕ) × Items line (tokens_from line from) is
      go at us e (items {w} {ts} s f) =
          let k = s.word in
          (w.next.at, subst (λ (vs : List Token). Items line vs is) (goes_on_lem line at e (λ z. never (cc))) f)

  pub operands-from : {l : Option Name} {op : Opcode} {os : List Written} → Says line l (instruction op os)
      → (at : ℕ) × OperandField line (tokens_from line at) os
  operands-from {op = op} {os} x = from-says go x
    where
      go : (at : ℕ) (us : List Token) → tokens_from line at ≡ us → Body line us (instruction op os)
          → (from : ℕ) × OperandField line (tokens_from line from) os
      go at us e (opcode {w} {ts} s f) =
          let k = s.word in
          (w.next.at, subst (λ (vs : List Token). OperandField line vs os) (goes_on_lem line at e (λ z. never (cc))) f)

  -- DATA's cells are no more than the line's bytes
  pub few-cells : {l : Option Name} {is : List Item} → Says line l (cells is) → length (cells_of is) ≤ length line
  few-cells x =
      let h = items-from x in
      omega (arith, Items.few-cells line h.0 ((items-exactly line h.0).1 h.1))
