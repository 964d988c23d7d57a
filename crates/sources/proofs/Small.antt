-- An accepted image is a memory of 16-bit cells, and its free and its reserved cells hold 0. A line gives numbers in range, register codes,
-- labels' values and RES's zeros; a label's value is an expression's result or an address that was checked; and a line that gives cells marks
-- them, RES alone with 3.
use Prim.Native.Nat.{ℕ, ◌+◌, ◌<◌, ◌≤◌}
use mathlib.Core.Bool.{Bool, true, false, cond}
use mathlib.Core.List.{List, [], ◌∷◌, ◌++◌, map, Memᴰ}
use mathlib.Core.Logic.{◌⊎◌, inl, inr}
use mathlib.Core.Path.{◌≡◌, refl, sym, ap, subst, ◌∙◌}
use native.Mathlib.Omega.{arith}
use lib.Dec.{leb}
use lib.IntN.{ℤ, pos}
use lib.ListN.{length, get_or}
use lib.Signed.{le_z}
use mir.Syntax.{w16}
use mir.Val.{of_z}
use borrow.Author.Tests.{ltb-true}
use Rattle.codes.specs.Limits.{most_cells, deepest}
use Rattle.codes.specs.Marks.{free, reserved_mark}
use Rattle.numerals.specs.Numbers.{value_of, in_range, kept_of}
use Rattle.std.proofs.Common.{Option, Some, None, Result, Ok, Err}
use Rattle.operands.specs.declared.Operands.{Operands}
use Rattle.values.specs.declared.Name.{Name}
use Rattle.statements.specs.declared.Failure.{Failure}
use Rattle.operands.specs.declared.OperandsFault.{OperandsFault}
use Rattle.numerals.specs.declared.Numeral.{Numeral}
use Rattle.numerals.specs.declared.Radix.{Radix}
use Rattle.numerals.specs.declared.Radix.TheVariants.{Decimal, Hexadecimal}
use Rattle.isa.specs.Encoding.{words_of, allowed}
use Rattle.isa.specs.Operands.{operand_words, register_there}
use Rattle.isa.specs.declared.Opcode.{Opcode}
use Rattle.isa.specs.declared.Operand.{Operand}
use Rattle.isa.proofs.Top as isa
use Rattle.isa.proofs.Words.{parts}
use Rattle.tokens.specs.Reading.{tokens_from}
use Rattle.names.specs.Names.{same}
use Rattle.values.specs.Ranges.{displacement_in, displacement_of}
use Rattle.values.specs.declared.Value.{Value}
use Rattle.values.specs.declared.Value.TheVariants as Values
use Rattle.expressions.specs.Trees.{Tree, depth}
use Rattle.expressions.specs.Worths.{worth_of, Worth}
use Rattle.operands.specs.Checks.{operand_with, operand_at, cell_of, word_of, label_in, given}
use Rattle.operands.specs.Settling.{settled_by, settled_operand, settled_instruction}
use Rattle.operands.specs.declared.Given.{Given}
use Rattle.operands.specs.declared.Written.{Written}
use Rattle.operands.specs.declared.Written.TheVariants as W
use Rattle.operands.proofs.Settled.{reworded_as}
use Rattle.operands.proofs.Top as operands
use Rattle.items.proofs.Small.{Small, none-small, cons-small, append_small, number_small}
use Rattle.items.proofs.Top as items
use Rattle.statements.specs.Checks.{least_signed, result_in}
use Rattle.statements.specs.FirstFailing.{Pass}
use Rattle.statements.specs.Judging.{result_of, worth_result, tree_result, judged}
use Rattle.statements.specs.Reading.{line_read}
use Rattle.statements.specs.Statements.{Reading, res, Says}
use Rattle.statements.specs.declared.Failure.TheVariants as F
use Rattle.statements.specs.declared.Statement.{Statement}
use Rattle.statements.specs.declared.Statement.TheVariants as S
use Rattle.statements.proofs.Labelling.{never}
use Rattle.statements.proofs.Passing.{instruction-from}
use Rattle.statements.proofs.Places.{items-from}
use Rattle.statements.proofs.Top as statements
use Rattle.sources.specs.Sources.{Said, spelled}
use Rattle.sources.specs.Placing.{does, does_read, Bound, Place, start, labelled, bound_to, bound_by, acted, judged_line, after, place_after, place_of, bindings}
use Rattle.sources.specs.Uses.{known, unknown, Counted, plainly, from, counted_for, counted_word}
use Rattle.sources.specs.Uses as Uses
use Rattle.sources.specs.Order.{LabelOut, line_checks, Passed, end_checks, late_checks}
use Rattle.sources.specs.Image.{word_by, word_in, code_read, given_by, Block, blocks_of, blocks, Accepted}
use Rattle.sources.specs.declared.Gives.{Gives}
use Rattle.sources.specs.declared.Gives.TheVariants.{Waits, Number, Start}
use Rattle.sources.proofs.Contents.{PassesAs, as_nothing, as_instruction, as_org, as_equ, as_res, as_cells, as_end, passes_as, statement-read}
use Rattle.sources.proofs.Filling.{Read, all_read, fits}
use Rattle.sources.proofs.Images.{Somewhere, Nowhere, somewhere}
use Rattle.sources.proofs.Passing.{passing-says}
use Rattle.sources.proofs.Stores.{zero-there}

-- ---- an operand's word

kept_small : (n : Numeral) (x : ℕ) → kept_of n ≡ Some x → x < 65536
unfolding kept_of
kept_small n x e = go (in_range (value_of n)) refl e
  where
    go : (b : Bool) → in_range (value_of n) ≡ b → cond b (Some (of_z w16 (value_of n))) None ≡ Some x → x < 65536
    go true f q = let z : of_z w16 (value_of n) ≡ x = cc in subst (λ (y : ℕ). y < 65536) z (number_small (value_of n) f)
    go false f q = never (cc)

displaced-small : (n : Numeral) (x : ℕ) → displacement_of n ≡ Some x → x < 65536
unfolding displacement_of
displaced-small n x e = go n.radix e
  where
    within : (b : Bool) → cond b (kept_of n) None ≡ Some x → x < 65536
    within true q = kept_small n x q
    within false q = never (cc)

    go : (r : Radix) → displacement_in r n ≡ Some x → x < 65536
    go Decimal q = within (le_z (value_of n) (pos 32767)) q
    go Hexadecimal q = kept_small n x q

value-small : (keeps : Numeral → Option ℕ) → ((n : Numeral) (x : ℕ) → keeps n ≡ Some x → x < 65536) → (v : Value) (x : ℕ)
    → cell_of keeps v ≡ Some x
    → x < 65536
value-small keeps f (Values.Number n) x e = f n x e
value-small keeps f (Values.Label name) x e = let z : ◌≡◌ {A = ℕ} 0 x = cc in omega arith

-- a register that is there has a code below 16
word_small : (o : Written) {x : ℕ} (w : ℕ) → word_of o ≡ Some x → register_there (settled_operand (given o x) w) ≡ true → x < 65536
unfolding word_of label_in
word_small W.Absent {x} w e t = let z : ◌≡◌ {A = ℕ} 0 x = cc in omega arith
word_small (W.Immediate v) {x} w e t = value-small kept_of kept_small v x e
word_small (W.Register r) {x} w e t = omega (arith, ltb-true x 16 t)
word_small (W.Memory v) {x} w e t = value-small kept_of kept_small v x e
word_small (W.Indirect r) {x} w e t = omega (arith, ltb-true x 16 t)
word_small (W.IndexedX v) {x} w e t = value-small displacement_of displaced-small v x e
word_small (W.IndexedY v) {x} w e t = value-small displacement_of displaced-small v x e
word_small (W.IndexedSp v) {x} w e t = value-small displacement_of displaced-small v x e
word_small (W.Relative v) {x} w e t = value-small displacement_of displaced-small v x e

with-small : (o : Written) (x : ℕ) → x < 65536 → Small (operand_words (operand_with o x))
with-small W.Absent x h = none-small
with-small (W.Immediate v) x h = cons-small [] h none-small
with-small (W.Register r) x h = cons-small [] h none-small
with-small (W.Memory v) x h = cons-small [] h none-small
with-small (W.Indirect r) x h = cons-small [] h none-small
with-small (W.IndexedX v) x h = cons-small [] h none-small
with-small (W.IndexedY v) x h = cons-small [] h none-small
with-small (W.IndexedSp v) x h = cons-small [] h none-small
with-small (W.Relative v) x h = cons-small [] h none-small

settled-small : (l : Option Name) (o : Written) (x w : ℕ) → x < 65536 → w < 65536 → Small (operand_words (settled_by l (operand_with o x) w))
settled-small None o x w h g = with-small o x h
settled-small (Some n) o x w h g = subst (λ (p : Operand). Small (operand_words p)) (sym (reworded_as o x w)) (with-small o w g)

operand_small : (g : Given) (o : Written) (x w : ℕ) → g ≡ given o x → word_of o ≡ Some x → w < 65536 → register_there (settled_operand g w) ≡ true
    → Small (operand_words (settled_operand g w))
operand_small g o x w e k h t =
    subst (λ (d : Given). register_there (settled_operand d w) ≡ true → Small (operand_words (settled_operand d w))) (sym e)
    (λ u. settled-small (label_in o) o x w (word_small o w k u) h) t

-- ---- an instruction

module _ (bytes : List ℕ) {op : Opcode} {a b : Given} (e : (line_read bytes).statement ≡ Ok (S.Instruction op a b)) (v w : ℕ) where
  -- what is read is allowed, whatever its labels stand for
  pub settled-allowed : allowed (settled_instruction op a b v w) ≡ true
  settled-allowed =
      let h = instruction-from bytes e in
      let i = settled_instruction op a b v w in
      go (allowed i) (sym (isa.encoder i) ∙ operands.encodes bytes (tokens_from bytes h.0) op h.1 v w)
    where
      go : (c : Bool) → ◌≡◌ {A = ℕ} (cond c 0 5) 0 → c ≡ true
      go true q = refl
      go false q = absurd (omega arith)

  words_small : v < 65536 → w < 65536 → Small (words_of (settled_instruction op a b v w))
  unfolding words_of
  words_small p q =
      let i = settled_instruction op a b v w in
      let h = instruction-from bytes e in
      let g = (operands.read-exactly bytes (tokens_from bytes h.0) op).0 h.1 in
      let t = parts i settled-allowed in
      let xs = operand_words (settled_operand a v) in
      let ys = operand_words (settled_operand b w) in
      cons-small (xs ++ ys) (omega (arith, (isa.first-word-of i settled-allowed).0))
      (append_small xs ys
      (operand_small a (operand_at g.operands 0) g.first_word v g.first-given g.first_in_range p t.first-register)
      (operand_small b (operand_at g.operands 1) g.second_word w g.second-given g.second_in_range q t.second-register))

-- ---- labels' values

abbrev ValuesSmall : List Bound → Type 0
ValuesSmall [] = Unit {0}
ValuesSmall (b ∷ bs) = (b.value < 65536) × ValuesSmall bs

values_append : (bs cs : List Bound) → ValuesSmall bs → ValuesSmall cs → ValuesSmall (bs ++ cs)
values_append [] cs h g = g
values_append (b ∷ bs) cs h g = (h.0, values_append bs cs h.1 g)

-- labels that are bound to a value that is small, if there are any
bound-small : (v : ℕ) (ws : List (List ℕ)) → (0 < length ws → v < 65536) → ValuesSmall (bound_to v ws)
unfolding bound_to
bound-small v [] h = tt
bound-small v (w ∷ ws) h = (h (omega arith), bound-small v ws (λ g. h (omega arith)))

found-small : (bs : List Bound) → ValuesSmall bs → (w : List ℕ) (v : ℕ) → Uses.value_of bs w ≡ known v → v < 65536
unfolding Uses.value_of
found-small [] h w v e = never (cc)
found-small (b ∷ bs) h w v e = go (same b.name w) e (found-small bs h.1 w v)
  where
    go : (c : Bool) → cond c (known b.value) (Uses.value_of bs w) ≡ known v → (Uses.value_of bs w ≡ known v → v < 65536) → v < 65536
    go true q f = let z : b.value ≡ v = cc in subst (λ (x : ℕ). x < 65536) z h.0
    go false q f = f q

counted-small : (c : Counted) (v : Uses.Value) → ((x : ℕ) → v ≡ known x → x < 65536) → counted_word c v < 65536
counted-small plainly (known v) h = h v refl
counted-small plainly unknown h = omega arith
counted-small (from next) (known v) h = omega arith
counted-small (from next) unknown h = omega arith

label_small : (bs : List Bound) → ValuesSmall bs → (bytes : List ℕ) (next : ℕ) (l : Option Name) (o : Operand) → word_by bs bytes next l o < 65536
label_small bs h bytes next None o = omega arith
label_small bs h bytes next (Some n) o =
    counted-small (counted_for o next) (Uses.value_of bs (spelled bytes n)) (λ x e. found-small bs h (spelled bytes n) x e)

-- ---- what a line gives

given-small : (bs : List Bound) → ValuesSmall bs → (bytes : List ℕ) {l : Option Name} {r : Reading} {s : Statement} → Says bytes l r
    → (line_read bytes).statement ≡ Ok s → PassesAs r s → (next : ℕ) → Small (given_by bs bytes next r)
given-small bs h bytes x e as_nothing next = none-small
given-small bs h bytes x e (as_instruction {op} {os} {a} {b} f) next =
    subst (λ (i : Result Operands OperandsFault). Small (code_read bs bytes next op i)) (sym f)
    (words_small bytes e (word_in bs bytes next a) (word_in bs bytes next b) (label_small bs h bytes next a.label a.operand)
    (label_small bs h bytes next b.label b.operand))
given-small bs h bytes x e as_org next = none-small
given-small bs h bytes x e as_equ next = none-small
given-small bs h bytes x e (as_res {t} f) next = λ k. let z = zero-there (does_read (judged (res t))).claims k in omega (arith, z)
given-small bs h bytes x e (as_cells {is} f) next =
    let i = items-from bytes x in
    subst Small (items.written-exactly bytes i.0 i.1 f) (items.cells-small bytes i.0)
given-small bs h bytes x e as_end next = none-small

-- a line that marks its cells as reserved gives zeros
reserved-given : (bs : List Bound) (bytes : List ℕ) (next : ℕ) {r : Reading} {s : Statement} → PassesAs r s → (does s).mark ≡ reserved_mark
    → (i : ℕ) → get_or (given_by bs bytes next r) i 0 ≡ 0
unfolding does
reserved-given bs bytes next as_nothing e i = refl
reserved-given bs bytes next (as_instruction f) e i = absurd (omega arith)
reserved-given bs bytes next as_org e i = refl
reserved-given bs bytes next as_equ e i = refl
reserved-given bs bytes next (as_res {t} f) e i = zero-there (does_read (judged (res t))).claims i
reserved-given bs bytes next (as_cells f) e i = absurd (omega arith)
reserved-given bs bytes next as_end e i = refl

-- ---- what a line binds

equ-small : (t : Tree) (v : ℕ) → tree_result least_signed S.Equ t ≡ Ok (S.Equ v) → v < 65536
unfolding tree_result result_of
equ-small t v h = by_depth (leb (depth t) deepest) h
  where
    by_result : (z : ℤ) (b : Bool) → result_in least_signed z ≡ b → cond b (Ok (S.Equ (of_z w16 z))) (Err F.ResultOut) ≡ Ok (S.Equ v) → v < 65536
    by_result z true f q = let y : of_z w16 z ≡ v = cc in subst (λ (x : ℕ). x < 65536) y (number_small z f)
    by_result z false f q = never (cc)

    by_worth : (w : Worth) → worth_result least_signed S.Equ w ≡ Ok (S.Equ v) → v < 65536
    by_worth (Ok z) q = by_result z (result_in least_signed z) refl q
    by_worth (Err why) q = never (cc)

    by_depth : (b : Bool) → cond b (worth_result least_signed S.Equ (worth_of t)) (Err F.TooDeep) ≡ Ok (S.Equ v) → v < 65536
    by_depth true q = by_worth (worth_of t) q
    by_depth false q = never (cc)

-- a number that labels get is EQU's
number-given : {r : Reading} {s : Statement} → judged r ≡ Ok s → PassesAs r s → (v : ℕ) → (does s).gives ≡ Number v → v < 65536
unfolding does judged
number-given e as_nothing v q = never (cc)
number-given e (as_instruction f) v q = never (cc)
number-given e as_org v q = never (cc)
number-given e (as_equ {t = t} {v = u}) v q = let z : u ≡ v = cc in subst (λ (x : ℕ). x < 65536) z (equ-small t u e)
number-given e (as_res f) v q = never (cc)
number-given e (as_cells f) v q = never (cc)
number-given e as_end v q = never (cc)

-- a line that passes
record Passing (M k : ℕ) (p : Place) (x : Said) : Type 0 where
  statement : Statement
  comes_to : judged x.says ≡ Ok statement
  label-in : LabelOut (labelled p x.bytes x.label) (does statement) → ⊥

passing : (M k : ℕ) (p : Place) (x : Said) → Says x.bytes x.label x.says → Pass (line_checks M k p x.bytes) → Passing M k p x
unfolding Pass line_checks
passing M k p x h c =
    let q = passing-says M k p x.bytes c in
    let o = statements.one-reading x.bytes q.3 h in
    let e : judged x.says ≡ Ok q.2 = ap judged (sym o.1) ∙ q.4 in
    record {
      statement = q.2;
      comes_to = e;
      label-in = λ f. c.1.1.1.1.1.1.1.1.1.1.0 (x.label, x.says, q.2, h, e, f);
    }

bound_by_lem : (q : Place) (g : Gives) → ValuesSmall q.bound → ((v : ℕ) → g ≡ Number v → v < 65536)
    → (g ≡ Start → 0 < length q.waiting → q.at < 65536)
    → ValuesSmall (bound_by g q).bound
bound_by_lem q Waits h n s = h
bound_by_lem q (Number v) h n s = values_append q.bound (bound_to v q.waiting) h (bound-small v q.waiting (λ t. n v refl))
bound_by_lem q Start h n s = values_append q.bound (bound_to q.at q.waiting) h (bound-small q.at q.waiting (s refl))

after_small : (M k : ℕ) (p : Place) (x : Said) → Says x.bytes x.label x.says → Pass (line_checks M k p x.bytes) → ValuesSmall p.bound
    → ValuesSmall (after p (judged_line x)).bound
unfolding after acted
after_small M k p x h c b =
    let t = passing M k p x h c in
    let q = labelled p x.bytes x.label in
    let near : (does t.statement).gives ≡ Start → 0 < length q.waiting → q.at < 65536 =
    λ f g. let n : most_cells ≤ q.at → ⊥ = λ u. t.label-in (f, g, u) in omega (arith, n) in
    subst (λ (j : _). ValuesSmall (bound_by (does_read j).gives q).bound) (sym t.comes_to)
    (bound_by_lem q (does t.statement).gives b (number-given t.comes_to (passes_as x.says t.comes_to)) near)

values_small : (M k : ℕ) (p : Place) (xs : List Said) → Read xs → Passed M k p xs → ValuesSmall p.bound
    → ValuesSmall (place_after p (map judged_line xs)).bound
unfolding Passed place_after
values_small M k p [] s h b = b
values_small M k p (x ∷ xs) s h b =
    values_small M (k + 1) (after p (judged_line x)) xs s.1 h.1 (after_small M k p x s.0 h.0 b)

bindings-small : {M N : ℕ} {source memory marks : List ℕ} (a : Accepted M N source memory marks) → ValuesSmall (bindings (place_of M a.reading))
unfolding bindings late_checks end_checks Pass start
bindings-small {M} a =
    let p = place_of M a.reading in
    let n = a.passing.labels.0 in
    values_append p.bound (bound_to p.at p.waiting)
    (values_small M 1 (start M) a.reading (all_read a.passing.text.read) a.passing.lines tt)
    (bound-small p.at p.waiting (λ t. let f : most_cells ≤ p.at → ⊥ = λ u. n (t, u) in omega (arith, f)))

-- ---- the blocks

record SmallBlock (b : Block) : Type 0 where
  cells : Small b.given
  marking : 0 < length b.given → b.mark ≡ free → ⊥
  reserving : b.mark ≡ reserved_mark → (i : ℕ) → get_or b.given i 0 ≡ 0

blocks-small : (bs : List Bound) → ValuesSmall bs → (M k : ℕ) (p : Place) (xs : List Said) → Read xs → Passed M k p xs → (b : Block)
    → Memᴰ b (blocks_of bs p.at xs)
    → SmallBlock b
unfolding blocks_of Passed after acted
blocks-small bs v M k p [] s h b m = elim m [ ]
blocks-small bs v M k p (x ∷ xs) s h b (Memᴰ.head e) =
    let t = passing M k p x s.0 h.0 in
    let f = fits M k bs p x s.0 h.0 in
    let q = statement-read x.bytes x.says s.0 t.comes_to in
    let r = passes_as x.says t.comes_to in
    subst SmallBlock (sym e)
    (record {
      cells = given-small bs v x.bytes s.0 q r _;
      marking = λ l. f.marking (omega (arith, f.given-long, l));
      reserving = λ k. reserved-given bs x.bytes _ r (ap (λ (j : Result Statement Failure). (does_read j).mark) (sym t.comes_to) ∙ k);
    })
blocks-small bs v M k p (x ∷ xs) s h b (Memᴰ.tail m) = blocks-small bs v M (k + 1) (after p (judged_line x)) xs s.1 h.1 b m

-- ---- the image

module _ {M N : ℕ} {source memory marks : List ℕ} (a : Accepted M N source memory marks) where
  small_block : (b : Block) → Memᴰ b (blocks M a.reading) → SmallBlock b
  unfolding start
  small_block =
      blocks-small (bindings (place_of M a.reading)) (bindings-small a) M 1 (start M) a.reading (all_read a.passing.text.read)
      a.passing.lines

  -- each cell is below 65536
  pub image-small : Small memory
  image-small j = go (somewhere (blocks M a.reading) j)
    where
      go : Somewhere (blocks M a.reading) j ⊎ Nowhere (blocks M a.reading) j → get_or memory j 0 < 65536
      go (inl (b, m, (i, l, e))) =
          let g = (a.image.given b m i l).0 in
          let z = ap (λ (x : ℕ). get_or memory x 0) e in
          omega (arith, g, z, (small_block b m).cells i)
      go (inr n) = let z = (a.image.elsewhere j n).0 in omega (arith, z)

  -- and 0 where it is free
  pub image-free : (j : ℕ) → get_or marks j free ≡ free → get_or memory j 0 ≡ 0
  image-free j f = go (somewhere (blocks M a.reading) j)
    where
      go : Somewhere (blocks M a.reading) j ⊎ Nowhere (blocks M a.reading) j → get_or memory j 0 ≡ 0
      go (inl (b, m, (i, l, e))) =
          let g = (a.image.given b m i l).1 in
          absurd ((small_block b m).marking (omega arith) (sym g ∙ ap (λ (x : ℕ). get_or marks x free) (sym e) ∙ f))
      go (inr n) = (a.image.elsewhere j n).0

  -- and where it is reserved
  pub image-reserved : (j : ℕ) → get_or marks j free ≡ reserved_mark → get_or memory j 0 ≡ 0
  image-reserved j f = go (somewhere (blocks M a.reading) j)
    where
      go : Somewhere (blocks M a.reading) j ⊎ Nowhere (blocks M a.reading) j → get_or memory j 0 ≡ 0
      go (inl (b, m, (i, l, e))) =
          let g = a.image.given b m i l in
          let k : b.mark ≡ reserved_mark = sym g.1 ∙ ap (λ (x : ℕ). get_or marks x free) (sym e) ∙ f in
          ap (λ (x : ℕ). get_or memory x 0) e ∙ g.0 ∙ (small_block b m).reserving k i
      go (inr n) = (a.image.elsewhere j n).0
