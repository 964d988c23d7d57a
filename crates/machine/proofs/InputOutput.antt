-- Input and output (01: "input/output (8 or 9; a string passing M is 5 and comes before 9)"): what a step is that asks for them.
-- Assumes nothing.
use mathlib.Core.Path.{◌≡◌, refl, ap, ◌∙◌}
use mathlib.Core.Bool.{Bool, true, false, cond, ◌&&◌}
use mathlib.Core.List.{List, [], ◌∷◌, ◌++◌, map}
use Prim.Native.Nat.{ℕ, suc, ◌+◌, ◌≤◌, ◌<◌}
use native.Mathlib.Omega.{arith}
use borrow.Author.Tests.{lt-ltb, le-leb}
use lib.ListN.{length, get_or, set, drop, length-drop, length-append, length-map}
use Rattle.codes.specs.Registers.{SR, SP, PC}
use Rattle.numerals.specs.Reading.{line_number}
use Rattle.numerals.specs.Writing.{signed_decimal}
use Rattle.isa.specs.Opcodes.{table}
use Rattle.isa.specs.declared.Instruction.{Instruction}
use Rattle.isa.specs.declared.Opcode.TheVariants as O
use Rattle.isa.specs.declared.Operand.{Operand}
use Rattle.isa.specs.declared.Operand.TheVariants.{Register}
use Rattle.effects.specs.Effects.{by_opcode, addresses_there, perform_of}
use Rattle.effects.specs.Places.{place_of, there_in, target_of}
use Rattle.effects.specs.declared.Effect.{Effect}
use Rattle.effects.specs.declared.Performed.{Performed}
use Rattle.effects.specs.declared.Performed.TheVariants.{Asks, Stops}
use Rattle.effects.specs.declared.Place.{Place}
use Rattle.effects.specs.declared.Place.TheVariants.{Nowhere, Constant, InRegister, InCell}
use Rattle.effects.specs.declared.Port.{Port}
use Rattle.effects.specs.declared.Port.TheVariants.{TakeByte, TakeNumber, TakeString, PutByte, PutNumber, PutString}
use Rattle.ports.specs.Overwriting.{overwrite}
use Rattle.ports.specs.Input.{Passed}
use Rattle.ports.specs.Output.{low_byte, text_put}
use Rattle.ports.specs.Rules.{Free, Line, StringFrom}
use Rattle.std.proofs.Common.{Ok}
use Rattle.ports.proofs.Outcomes.{text-put}
use Rattle.ports.proofs.Rules.{line_stored}
use Rattle.ports.proofs.Top as ports
use Rattle.machine.specs.States.{State, register}
use Rattle.machine.specs.Stops.{good_loan, refuses}
use Rattle.machine.specs.Steps.{does, takes, fills, prints, asks, step_of}
use Rattle.machine.proofs.Kept.{one, Reads, place_in, value_in, There, kept, does-register, writes-register, same_SP, goes_on_lem}
use Rattle.machine.proofs.Completed.{comes_to}
use Rattle.machine.proofs.Ends.{stops}

-- a place whose address is one of memory is there
there_by : (size : ℕ) (p : Place) → target_of p < size → there_in size p ≡ true
unfolding there_in target_of
there_by size Nowhere h = refl
there_by size (Constant v) h = refl
there_by size (InRegister k) h = refl
there_by size (InCell a) h = lt-ltb a size h

-- a string begins in memory: its 0 cell is there
string-begins : (m : List ℕ) (from : ℕ) {cells : List ℕ} → StringFrom m from cells → from < length m
string-begins m from {cells} t =
    let l : length (drop from m) ≡ length cells + suc (length t.rest) = ap length t.zero-follows ∙ length-append cells (0 ∷ t.rest) in
    omega (arith, length-drop from m)

module _ (input : List ℕ) (s : State) (good : good_loan input s ≡ true) (runs : s.registers.stop ≡ 0) (next : ℕ) (a : Operand) where
  abbrev r : List ℕ
  r = s.registers.r

  abbrev m : List ℕ
  m = s.memory

  abbrev out : List ℕ
  out = s.output

  abbrev taken : ℕ
  taken = s.registers.taken

  abbrev written : ℕ
  written = s.registers.written

  -- the address that the operand is, and the value that stands there
  abbrev at : ℕ
  at = target_of (place_in s next a)

  abbrev x : ℕ
  x = value_in s next a

  asked : {i : Instruction} (port : Port) → Reads s i next → perform_of r m next i ≡ Asks port → step_of input s ≡ asks input s next port
  asked port read e = comes_to input s good runs next (Asks port) read e

  -- ---- what each asks for

  INCHAR-asks : Reads s (one O.INCHAR a) next → There s next a → step_of input s ≡ asks input s next (TakeByte (place_in s next a))
  unfolding perform_of addresses_there table place_of there_in by_opcode
  INCHAR-asks read there = asked _ read (rw there)

  ININT-asks : Reads s (one O.ININT a) next → There s next a → step_of input s ≡ asks input s next (TakeNumber (place_in s next a))
  unfolding perform_of addresses_there table place_of there_in by_opcode
  ININT-asks read there = asked _ read (rw there)

  INSTR-asks : Reads s (one O.INSTR a) next → There s next a → step_of input s ≡ asks input s next (TakeString at)
  unfolding perform_of addresses_there table place_of there_in by_opcode
  INSTR-asks read there = asked _ read (rw there)

  WRCHAR-asks : Reads s (one O.WRCHAR a) next → There s next a → step_of input s ≡ asks input s next (PutByte x)
  unfolding perform_of addresses_there table place_of there_in by_opcode
  WRCHAR-asks read there = asked _ read (rw there)

  WRINT-asks : Reads s (one O.WRINT a) next → There s next a → step_of input s ≡ asks input s next (PutNumber x)
  unfolding perform_of addresses_there table place_of there_in by_opcode
  WRINT-asks read there = asked _ read (rw there)

  WRSTR-asks : Reads s (one O.WRSTR a) next → There s next a → step_of input s ≡ asks input s next (PutString at)
  unfolding perform_of addresses_there table place_of there_in by_opcode
  WRSTR-asks read there = asked _ read (rw there)

  -- ---- "8": the input is at its end

  module _ (h : length input ≤ taken) where
    pub INCHAR_at_end : Reads s (one O.INCHAR a) next → There s next a → step_of input s ≡ refuses s 8
    unfolding asks
    INCHAR_at_end read there = INCHAR-asks read there ∙ ap (takes s next (place_in s next a)) (ports.INCHAR_at_end input taken h)

    pub ININT_at_end : Reads s (one O.ININT a) next → There s next a → step_of input s ≡ refuses s 8
    unfolding asks
    ININT_at_end read there = ININT-asks read there ∙ ap (takes s next (place_in s next a)) (ports.ININT_at_end input taken h)

    pub INSTR_at_end : Reads s (one O.INSTR a) next → There s next a → step_of input s ≡ refuses s 8
    unfolding asks
    INSTR_at_end read there =
        INSTR-asks read there ∙ ap (λ (p : Passed). fills s next p.moved p.row) (ports.INSTR_at_end input taken m at h)

  -- ---- "a string passing M is 5": and so is an operand outside memory, so that none has to be inside

  five_anyway : {i : Instruction} (port : Port) → Reads s i next →
      perform_of r m next i ≡ cond (there_in (length m) (place_in s next a)) (Asks port) (Stops 5) → asks input s next port ≡ refuses s 5 →
      step_of input s ≡ refuses s 5
  five_anyway {i} port read e q = go (there_in (length m) (place_in s next a)) e
    where
      go : (t : Bool) → perform_of r m next i ≡ cond t (Asks port) (Stops 5) → step_of input s ≡ refuses s 5
      go true p = asked port read p ∙ q
      go false p = stops input s good runs next 5 read p

  and-true : (t : Bool) (p q : Performed) → cond (t && true) p q ≡ cond t p q
  and-true true p q = refl
  and-true false p q = refl

  pub INSTR_too_long : {line : List ℕ} {after : ℕ} → Reads s (one O.INSTR a) next → taken < length input → Line input taken line after →
      length m < at + length line + 1 → step_of input s ≡ refuses s 5
  unfolding perform_of addresses_there table place_of there_in by_opcode asks
  INSTR_too_long read here its h =
      five_anyway (TakeString at) read (and-true (there_in (length m) (place_in s next a)) _ _)
      (ap (λ (p : Passed). fills s next p.moved p.row) (ports.INSTR_too_long input taken here its m at h))

  -- "and comes before 9": whatever room there is
  pub WRSTR-unended : Reads s (one O.WRSTR a) next → Free 0 (drop at m) → step_of input s ≡ refuses s 5
  unfolding perform_of addresses_there table place_of there_in by_opcode asks
  WRSTR-unended read f =
      five_anyway (PutString at) read (and-true (there_in (length m) (place_in s next a)) _ _)
      (ap (λ (p : Passed). prints s next p.moved p.row) (ports.WRSTR-unended out written m at f))

  -- ---- "9": the room is short

  pub WRCHAR-short : Reads s (one O.WRCHAR a) next → There s next a → length out ≤ written → step_of input s ≡ refuses s 9
  unfolding asks
  WRCHAR-short read there h =
      WRCHAR-asks read there
      ∙ ap (λ (p : Passed). prints s next p.moved p.row)
      (ports.WRCHAR-text out written x ∙ ports.text_too_long out written (low_byte x ∷ []) (omega arith))

  pub WRINT-short : Reads s (one O.WRINT a) next → There s next a → length out < written + length (signed_decimal x) → step_of input s ≡ refuses s 9
  unfolding asks
  WRINT-short read there h =
      WRINT-asks read there
      ∙ ap (λ (p : Passed). prints s next p.moved p.row) (ports.WRINT-text out written x ∙ ports.text_too_long out written (signed_decimal x) h)

  pub WRSTR-short : {cells : List ℕ} → Reads s (one O.WRSTR a) next → StringFrom m at cells → length out < written + length cells →
      step_of input s ≡ refuses s 9
  unfolding asks
  WRSTR-short {cells} read its h =
      WRSTR-asks read (there_by (length m) (place_in s next a) (string-begins m at its))
      ∙ ap (λ (p : Passed). prints s next p.moved p.row)
      (ports.WRSTR-text out written m at its ∙ ports.text_too_long out written (map low_byte cells) (omega (arith, length-map cells low_byte)))

  -- ---- what is written or taken

  prints-text : (text : List ℕ) → written + length text ≤ length out → (p : Passed) → p ≡ text_put out written text →
      prints s next p.moved p.row ≡ kept (length m) next r taken (written + length text) m (overwrite out written text)
  prints-text text h p e =
      ap (λ (q : Passed). prints s next q.moved q.row) (e ∙ text-put out written text (le-leb _ _ h))
      ∙ goes_on_lem s next taken (written + length text) m (overwrite out written text)

  pub WRCHAR : Reads s (one O.WRCHAR a) next → There s next a → written + 1 ≤ length out →
      step_of input s ≡ kept (length m) next r taken (written + 1) m (overwrite out written (low_byte x ∷ []))
  unfolding asks
  WRCHAR read there h = WRCHAR-asks read there ∙ prints-text (low_byte x ∷ []) h _ (ports.WRCHAR-text out written x)

  pub WRINT : Reads s (one O.WRINT a) next → There s next a → written + length (signed_decimal x) ≤ length out →
      step_of input s ≡ kept (length m) next r taken (written + length (signed_decimal x)) m (overwrite out written (signed_decimal x))
  unfolding asks
  WRINT read there h = WRINT-asks read there ∙ prints-text (signed_decimal x) h _ (ports.WRINT-text out written x)

  pub WRSTR : {cells : List ℕ} → Reads s (one O.WRSTR a) next → StringFrom m at cells → written + length cells ≤ length out →
      step_of input s ≡ kept (length m) next r taken (written + length cells) m (overwrite out written (map low_byte cells))
  unfolding asks
  WRSTR {cells} read its h =
      let n : length (map low_byte cells) ≡ length cells = length-map cells low_byte in
      WRSTR-asks read (there_by (length m) (place_in s next a) (string-begins m at its))
      ∙ prints-text (map low_byte cells) (omega arith) _ (ports.WRSTR-text out written m at its)
      ∙ ap (λ (k : ℕ). kept (length m) next r taken (written + k) m (overwrite out written (map low_byte cells))) n

  pub INSTR : {line : List ℕ} {after : ℕ} → Reads s (one O.INSTR a) next → taken < length input → Line input taken line after →
      at + length line + 1 ≤ length m →
      step_of input s ≡ kept (length m) next r after written (overwrite m at (line ++ (0 ∷ []))) out
  unfolding asks
  INSTR {line} {after} read here its h =
      INSTR-asks read (there_by (length m) (place_in s next a) (omega arith))
      ∙ ap (λ (p : Passed). fills s next p.moved p.row) (line_stored input taken here its m at h)
      ∙ goes_on_lem s next after written (overwrite m at (line ++ (0 ∷ []))) out

-- ---- a byte or a number to a register

module _ (input : List ℕ) (s : State) (good : good_loan input s ≡ true) (runs : s.registers.stop ≡ 0) (next k : ℕ)
    (no_SR : k ≡ SR → ⊥) (no_PC : k ≡ PC → ⊥) (here : s.registers.taken < length input) where
  taken_to_register : (v after : ℕ) →
      takes s next (InRegister k) (Ok (record { value = v; after = after })) ≡
      kept (length s.memory) next (set s.registers.r k v) after s.registers.written s.memory s.output
  taken_to_register v after =
      ap (λ (e : Effect). does s e after s.registers.written) (writes-register next (register s SP) k v no_PC)
      ∙ does-register s next (register s SP) v after s.registers.written k no_SR
      ∙ same_SP s.registers.r
      (λ (r : List ℕ). kept (length s.memory) next (set r k v) after s.registers.written s.memory s.output)

  pub INCHAR_to_register : Reads s (one O.INCHAR (Register k)) next →
      step_of input s ≡
      kept (length s.memory) next (set s.registers.r k (get_or input s.registers.taken 0)) (s.registers.taken + 1) s.registers.written
      s.memory s.output
  unfolding place_of there_in asks
  INCHAR_to_register read =
      INCHAR-asks input s good runs next (Register k) read refl
      ∙ ap (takes s next (InRegister k)) (ports.INCHAR-takes input s.registers.taken here)
      ∙ taken_to_register (get_or input s.registers.taken 0) (s.registers.taken + 1)

  pub ININT_to_register : {line : List ℕ} {after : ℕ} → Reads s (one O.ININT (Register k)) next → Line input s.registers.taken line after →
      step_of input s ≡
      kept (length s.memory) next (set s.registers.r k (line_number line)) after s.registers.written s.memory s.output
  unfolding place_of there_in asks
  ININT_to_register {line} {after} read its =
      ININT-asks input s good runs next (Register k) read refl
      ∙ ap (takes s next (InRegister k)) (ports.ININT-reads input s.registers.taken here its)
      ∙ taken_to_register (line_number line) after
