-- Two lines with the same tokens (tokens' Spacing.antt) have the same operands, with labels of the same bytes.
use Prim.Native.Nat.{ℕ, zero, suc}
use Prim.Native.Char.{code}
use mathlib.Core.Bool.{Bool, true, false, cond}
use mathlib.Core.List.{List}
use mathlib.Core.Path.{◌≡◌, refl, ap, subst}
use lib.Dec.{eqb, T}
use lib.ListN.{length}
use Rattle.std.proofs.Common.{Option, Some, None, Result, Ok, Err}
use Rattle.operands.specs.declared.Operands.{Operands}
use Rattle.operands.specs.declared.OperandsFault.{OperandsFault}
use Rattle.operands.specs.declared.OperandsFault.TheVariants.{WrongForm, WrongCount, WrongKind, OutOfRange}
use Rattle.numerals.specs.declared.Numeral.{Numeral}
use Rattle.numerals.specs.declared.Radix.TheVariants.{Decimal, Hexadecimal}
use Rattle.codes.specs.Registers.{IX, IY, SP, is_register}
use Rattle.isa.specs.declared.Opcode.{Opcode}
use Rattle.names.specs.Names.{register_code}
use Rattle.tokens.specs.Marks.{on_mark, only}
use Rattle.tokens.specs.Rows.{token}
use Rattle.tokens.specs.declared.Kind.{Kind}
use Rattle.tokens.specs.declared.Kind.TheVariants as K
use Rattle.tokens.specs.declared.Token.{Token}
use Rattle.tokens.proofs.Spacing.{is_minus, AsDirectly, SameBytes, AlikeRow, over, next}
use Rattle.values.specs.Values.{numeral}
use Rattle.values.specs.declared.Value.{Value}
use Rattle.values.proofs.Spacing.{AlikeValue, number, label, AlikeLabel, absent, named, AlikeList, none, some, AlikeResult, reads, wrong, AlikeStep, to, emit, halt, pick-alike, mark-alike, walk-alike}
use Rattle.operands.specs.Reading as W
use Rattle.operands.specs.Reading.{Shape, hash, slash, dollar, State, put, starts, index_step, finish, step, walk, operands_of}
use Rattle.operands.specs.Checks.{operand_with, operand_at, right_count, kind_allowed, cell_of, word_of, label_of, label_in, ranged, judged, judged_form, instruction_read}
use Rattle.operands.specs.declared.Given.{Given}
use Rattle.operands.specs.declared.Written.{Written}
use Rattle.operands.specs.declared.Written.TheVariants as O

module _ (line line' : List ℕ) where
  -- the same operand, with labels of the same bytes
  pub data AlikeWritten : Written → Written → Type 0 where
    nothing : AlikeWritten O.Absent O.Absent
    immediate : {v v' : Value} → AlikeValue line line' v v' → AlikeWritten (O.Immediate v) (O.Immediate v')
    register : (r : ℕ) → AlikeWritten (O.Register r) (O.Register r)
    memory : {v v' : Value} → AlikeValue line line' v v' → AlikeWritten (O.Memory v) (O.Memory v')
    indirect : (r : ℕ) → AlikeWritten (O.Indirect r) (O.Indirect r)
    indexed_x : {v v' : Value} → AlikeValue line line' v v' → AlikeWritten (O.IndexedX v) (O.IndexedX v')
    indexed_y : {v v' : Value} → AlikeValue line line' v v' → AlikeWritten (O.IndexedY v) (O.IndexedY v')
    indexed_sp : {v v' : Value} → AlikeValue line line' v v' → AlikeWritten (O.IndexedSp v) (O.IndexedSp v')
    relative : {v v' : Value} → AlikeValue line line' v v' → AlikeWritten (O.Relative v) (O.Relative v')

  -- the same operand and word, with labels of the same bytes
  pub record AlikeGiven (g g' : Given) : Type 0 where
    pub operand : g.operand ≡ g'.operand
    pub label : AlikeLabel line line' g.label g'.label

  pub data AlikeRead : Result Operands OperandsFault → Result Operands OperandsFault → Type 0 where
    read : {a a' b b' : Given} → AlikeGiven a a' → AlikeGiven b b' → AlikeRead (Ok (record { first = a; second = b })) (Ok (record { first = a'; second = b' }))
    fails : (why : OperandsFault) → AlikeRead (Err why) (Err why)

  -- ---- the walk

  -- states after a token of a kind: the digits' state only after a `-`
  data Near : Kind → State → State → Type 0 where
    operand : {k : Kind} → Near k W.operand W.operand
    value : {k : Kind} (s : Shape) → Near k (W.value s) (W.value s)
    digits : {k : Kind} (s : Shape) → T (is_minus k) → Near k (W.digits s) (W.digits s)
    after_hash : {k : Kind} {v v' : Value} → AlikeValue line line' v v' → Near k (W.after_hash v) (W.after_hash v')
    index_dot : {k : Kind} {v v' : Value} → AlikeValue line line' v v' → Near k (W.index_dot v) (W.index_dot v')
    index_name : {k : Kind} {v v' : Value} → AlikeValue line line' v v' → Near k (W.index_name v) (W.index_name v')
    register_name : {k : Kind} → Near k W.register_name W.register_name
    indirect_dot : {k : Kind} → Near k W.indirect_dot W.indirect_dot
    indirect_name : {k : Kind} → Near k W.indirect_name W.indirect_name
    closing : {k : Kind} {o o' : Written} → AlikeWritten o o' → Near k (W.closing o) (W.closing o')
    done : {k : Kind} {o o' : Written} → AlikeWritten o o' → Near k (W.done o) (W.done o')

  ends : (k : Kind) (st st' : State) → Near k st st' → AlikeResult AlikeWritten (finish st) (finish st')
  ends k st st' operand = wrong
  ends k st st' (value s) = wrong
  ends k st st' (digits s t) = wrong
  ends k st st' (after_hash h) = reads (some (immediate h) none)
  ends k st st' (index_dot h) = wrong
  ends k st st' (index_name h) = wrong
  ends k st st' register_name = wrong
  ends k st st' indirect_dot = wrong
  ends k st st' indirect_name = wrong
  ends k st st' (closing h) = wrong
  ends k st st' (done h) = reads (some h none)

  abbrev Steps : Kind → W.Step → W.Step → Type 0
  Steps k x x' = AlikeStep (Near k) AlikeWritten x x'

  put-alike : (k : Kind) (s : Shape) {v v' : Value} → AlikeValue line line' v v' → Near k (put s v) (put s v')
  put-alike k hash h = after_hash h
  put-alike k slash h = done (memory h)
  put-alike k dollar h = done (relative h)

  pick : (k : Kind) (y : Bool) {a a' b b' : W.Step} → Steps k a a' → Steps k b b' → Steps k (cond y a b) (cond y a' b')
  pick k = pick-alike (Near k) AlikeWritten

  starts-alike : (k : Kind) (b : ℕ) → Steps k (starts b) (starts b)
  unfolding starts
  starts-alike k b =
      pick k (eqb b (code "#")) (to (value hash))
      (pick k (eqb b (code ".")) (to register_name)
      (pick k (eqb b (code "/")) (to (value slash))
      (pick k (eqb b (code "[")) (to indirect_dot)
      (pick k (eqb b (code "$")) (to (value dollar)) halt))))

  index_alike : (k : Kind) (r : ℕ) {v v' : Value} → AlikeValue line line' v v' → Steps k (index_step v r) (index_step v' r)
  unfolding index_step
  index_alike k r h =
      pick k (eqb r IX) (to (closing (indexed_x h)))
      (pick k (eqb r IY) (to (closing (indexed_y h)))
      (pick k (eqb r SP) (to (closing (indexed_sp h))) halt))

  -- a mark that leads on
  marked : (k : Kind) (x : ℕ) {a a' : W.Step} → Steps k a a'
      → Steps k (on_mark W.halt (only W.halt x a) k) (on_mark W.halt (only W.halt x a') k)
  marked k x h = mark-alike (Near k) AlikeWritten k (λ b. pick k (eqb b x) h halt)

  -- a word that names a register
  worded : (k : Kind) (at end at' end' : ℕ) (f f' : ℕ → W.Step) → SameBytes line line' k at end at' end' → ((r : ℕ) → Steps k (f r) (f' r))
      → (d d' : Bool)
      → Steps k (W.on_word (f (W.code_at line (token k at d end))) k) (W.on_word (f' (W.code_at line' (token k at' d' end'))) k)
  worded K.End at end at' end' f f' s h d d' = halt
  worded K.Stray at end at' end' f f' s h d d' = halt
  worded K.Word at end at' end' f f' s h d d' =
      subst (λ (w : List ℕ). Steps K.Word (f (W.code_at line (token K.Word at d end))) (f' (register_code w))) s (h (W.code_at line (token K.Word at d end)))
  worded (K.Number v k) at end at' end' f f' s h d d' = halt
  worded K.Text at end at' end' f f' s h d d' = halt
  worded (K.Mark b) at end at' end' f f' s h d d' = halt

  value-step : (k : Kind) (s : Shape) (at end at' end' : ℕ) (d d' : Bool) → SameBytes line line' k at end at' end'
      → Steps k (step line (W.value s) (token k at d end)) (step line' (W.value s) (token k at' d' end'))
  value-step K.End s at end at' end' d d' e = halt
  value-step K.Stray s at end at' end' d d' e = halt
  value-step K.Word s at end at' end' d d' e = to (put-alike K.Word s (label e))
  value-step (K.Number v r) s at end at' end' d d' e = to (put-alike (K.Number v r) s (number (numeral false r v)))
  value-step K.Text s at end at' end' d d' e = halt
  value-step (K.Mark b) s at end at' end' d d' e = go (eqb b (code "-")) refl
    where
      go : (y : Bool) → eqb b (code "-") ≡ y → Steps (K.Mark b) (cond y (W.to (W.digits s)) W.halt) (cond y (W.to (W.digits s)) W.halt)
      go true q = to (digits {k = K.Mark b} s (rw q tt))
      go false q = halt

  digits_step : (before k : Kind) (s : Shape) (at end at' end' : ℕ) (d d' : Bool) → AsDirectly true before k d d' → T (is_minus before)
      → Steps k (step line (W.digits s) (token k at d end)) (step line' (W.digits s) (token k at' d' end'))
  digits_step before K.End s at end at' end' d d' m t = halt
  digits_step before K.Stray s at end at' end' d d' m t = halt
  digits_step before K.Word s at end at' end' d d' m t = halt
  digits_step before (K.Number v Decimal) s at end at' end' d d' m t =
      rw (m t) (pick (K.Number v Decimal) d' (to (put-alike (K.Number v Decimal) s (number (numeral true Decimal v)))) halt)
  digits_step before (K.Number v Hexadecimal) s at end at' end' d d' m t = halt
  digits_step before K.Text s at end at' end' d d' m t = halt
  digits_step before (K.Mark b) s at end at' end' d d' m t = halt

  steps : (before k : Kind) (st st' : State) (at end at' end' : ℕ) (d d' : Bool) → AsDirectly true before k d d' → SameBytes line line' k at end at' end'
      → Near before st st'
      → Steps k (step line st (token k at d end)) (step line' st' (token k at' d' end'))
  steps before k st st' at end at' end' d d' m s operand = mark-alike (Near k) AlikeWritten k (starts-alike k)
  steps before k st st' at end at' end' d d' m s (value x) = value-step k x at end at' end' d d' s
  steps before k st st' at end at' end' d d' m s (digits x t) = digits_step before k x at end at' end' d d' m t
  steps before k st st' at end at' end' d d' m s (after_hash h) =
      mark-alike (Near k) AlikeWritten k (λ b. pick k (eqb b (code "[")) (to (index_dot h)) (pick k (eqb b (code ",")) (emit (immediate h)) halt))
  steps before k st st' at end at' end' d d' m s (index_dot h) = marked k (code ".") (to (index_name h))
  steps before k st st' at end at' end' d d' m s (index_name {v = v} {v'} h) =
      worded k at end at' end' (index_step v) (index_step v') s (λ r. index_alike k r h) d d'
  steps before k st st' at end at' end' d d' m s register_name =
      worded k at end at' end' named' named' s (λ r. pick k (is_register r) (to (done (register r))) halt) d d'
    where
      named' : ℕ → W.Step
      named' r = cond (is_register r) (W.to (W.done (O.Register r))) W.halt
  steps before k st st' at end at' end' d d' m s indirect_dot = marked k (code ".") (to indirect_name)
  steps before k st st' at end at' end' d d' m s indirect_name =
      worded k at end at' end' named' named' s (λ r. pick k (is_register r) (to (closing (indirect r))) halt) d d'
    where
      named' : ℕ → W.Step
      named' r = cond (is_register r) (W.to (W.closing (O.Indirect r))) W.halt
  steps before k st st' at end at' end' d d' m s (closing h) = marked k (code "]") (to (done h))
  steps before k st st' at end at' end' d d' m s (done h) = marked k (code ",") (emit h)

  operands-alike : {before : Kind} {ts ts' : List Token} → AlikeRow line line' true before ts ts'
      → AlikeResult AlikeWritten (operands_of line ts) (operands_of line' ts')
  unfolding operands_of walk
  operands-alike over = reads none
  operands-alike {before = before} (next k m s r) =
      walk-alike line line' W.operand (step line) (step line') finish Near AlikeWritten (λ k. operand) ends steps {before = before} (next k m s r) W.operand W.operand operand

  -- ---- what is judged of them

  shape_same : (w : ℕ) {o o' : Written} → AlikeWritten o o' → operand_with o w ≡ operand_with o' w
  shape_same w nothing = refl
  shape_same w (immediate h) = refl
  shape_same w (register r) = refl
  shape_same w (memory h) = refl
  shape_same w (indirect r) = refl
  shape_same w (indexed_x h) = refl
  shape_same w (indexed_y h) = refl
  shape_same w (indexed_sp h) = refl
  shape_same w (relative h) = refl

  cell_same : (keeps : Numeral → Option ℕ) {v v' : Value} → AlikeValue line line' v v' → cell_of keeps v ≡ cell_of keeps v'
  cell_same keeps (number n) = refl
  cell_same keeps (label e) = refl

  word_same : {o o' : Written} → AlikeWritten o o' → word_of o ≡ word_of o'
  unfolding word_of
  word_same nothing = refl
  word_same (immediate h) = cell_same _ h
  word_same (register r) = refl
  word_same (memory h) = cell_same _ h
  word_same (indirect r) = refl
  word_same (indexed_x h) = cell_same _ h
  word_same (indexed_y h) = cell_same _ h
  word_same (indexed_sp h) = cell_same _ h
  word_same (relative h) = cell_same _ h

  label_of_alike : {v v' : Value} → AlikeValue line line' v v' → AlikeLabel line line' (label_of v) (label_of v')
  label_of_alike (number n) = absent
  label_of_alike (label e) = named e

  label-alike : {o o' : Written} → AlikeWritten o o' → AlikeLabel line line' (label_in o) (label_in o')
  unfolding label_in
  label-alike nothing = absent
  label-alike (immediate h) = label_of_alike h
  label-alike (register r) = absent
  label-alike (memory h) = label_of_alike h
  label-alike (indirect r) = absent
  label-alike (indexed_x h) = label_of_alike h
  label-alike (indexed_y h) = label_of_alike h
  label-alike (indexed_sp h) = label_of_alike h
  label-alike (relative h) = label_of_alike h

  at_alike : {os os' : List Written} → AlikeList AlikeWritten os os' → (i : ℕ) → AlikeWritten (operand_at os i) (operand_at os' i)
  at_alike none i = nothing
  at_alike (some h l) zero = h
  at_alike (some h l) (suc i) = at_alike l i

  length-same : {os os' : List Written} → AlikeList AlikeWritten os os' → length os ≡ length os'
  length-same none = refl
  length-same (some h l) = ap suc (length-same l)

  ranged-alike : {a a' b b' : Written} → AlikeWritten a a' → AlikeWritten b b' → (x y : Option ℕ) → AlikeRead (ranged a x b y) (ranged a' x b' y)
  ranged-alike h g (Some x) (Some y) =
      read (record { operand = shape_same x h; label = label-alike h }) (record { operand = shape_same y g; label = label-alike g })
  ranged-alike h g (Some x) None = fails OutOfRange
  ranged-alike h g None y = fails OutOfRange

  judged-alike : (op : Opcode) {os os' : List Written} → AlikeList AlikeWritten os os' → AlikeRead (judged op os) (judged op os')
  unfolding judged
  judged-alike op {os} {os'} l =
      let h = at_alike l 0 in
      let g = at_alike l 1 in
      rw (length-same l, shape_same 0 h, shape_same 0 g, word_same h, word_same g)
      (pick (right_count op os')
      (pick (kind_allowed op os' 0)
      (pick (kind_allowed op os' 1) (ranged-alike h g (word_of (operand_at os' 0)) (word_of (operand_at os' 1))) (fails (WrongKind 2))) (fails (WrongKind 1))) (fails WrongCount))
    where
      pick : (y : Bool) {r r' x x' : Result Operands OperandsFault} → AlikeRead r r' → AlikeRead x x' → AlikeRead (cond y r x) (cond y r' x')
      pick true h g = h
      pick false h g = g

  form-alike : (op : Opcode) {r r' : W.RowRead} → AlikeResult AlikeWritten r r' → AlikeRead (judged_form op r) (judged_form op r')
  form-alike op (reads l) = judged-alike op l
  form-alike op wrong = fails WrongForm

  -- what an opcode's operands come to
  pub instruction-alike : (op : Opcode) {before : Kind} {ts ts' : List Token} → AlikeRow line line' true before ts ts'
      → AlikeRead (instruction_read line op ts) (instruction_read line' op ts')
  unfolding instruction_read
  instruction-alike op r = form-alike op (operands-alike r)
