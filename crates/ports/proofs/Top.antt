-- What the ports promise, for a reader. Each function's promise is one equation with its meaning in specs/Input.antt or
-- specs/Output.antt; here stands what those meanings say, by the rules of specs/Rules.antt.
use mathlib.Core.Path.{◌≡◌, refl, sym, ap, ◌∙◌}
use mathlib.Core.Logic.{◌⊎◌}
use mathlib.Core.List.{List, [], ◌∷◌, ◌++◌, map}
use Prim.Native.Nat.{ℕ, ◌+◌, ◌≤◌, ◌<◌}
use native.Mathlib.Omega.{arith}
use borrow.Author.Tests.{le-leb, lt-leb}
use lib.ListN.{length, get_or, drop}
use Rattle.numerals.specs.Reading.{line_number}
use Rattle.numerals.specs.Writing.{signed_decimal}
use Rattle.ports.specs.Input.{line_at, after_line, byte_taken, number_taken, Passed, passed, string_taken}
use Rattle.ports.specs.Output.{low_byte, string_of, text_put, byte_put, number_put, string_put}
use Rattle.ports.specs.Rules.{Free, Line, StringFrom, Stands}
use Rattle.ports.specs.declared.Taken.{Taken}
use Rattle.std.proofs.Common.{Result, Ok, Err}
use Rattle.ports.proofs.Outcomes.{text-put, text-short, byte-none, byte-taken, number-none, string-none}
use Rattle.ports.proofs.Laws.{WRCHAR-keeps, WRINT-keeps, WRSTR-keeps, INSTR-keeps}
use Rattle.ports.proofs.Examples.{Examples}
use Rattle.ports.proofs.Rules as rules
use Rattle.ports.proofs.Examples as worked

-- ---- output

module _ (out : List ℕ) (at : ℕ) where
  -- A text that fits stands at the position, the position moves past it, and everything else is as it was.
  pub text_that_fits : (text : List ℕ) → at + length text ≤ length out
      → ((text_put out at text).moved ≡ Ok (at + length text)) × Stands out at text (text_put out at text).row
  text_that_fits text h = rw (text-put out at text (le-leb _ _ h)) (refl, rules.stands out at text (omega arith))

  -- "9 output room short": one that does not fit is not written at all.
  pub text_too_long : (text : List ℕ) → length out < at + length text → text_put out at text ≡ passed (Err 9) out
  text_too_long text h = text-short out at text (lt-leb _ _ h)

  -- "WRCHAR .. low bytes": its text is the low byte.
  pub WRCHAR-text : (x : ℕ) → byte_put out at x ≡ text_put out at (low_byte x ∷ [])
  unfolding byte_put
  WRCHAR-text x = refl

  -- "WRINT writes signed decimal": its text is that decimal.
  pub WRINT-text : (x : ℕ) → number_put out at x ≡ text_put out at (signed_decimal x)
  unfolding number_put
  WRINT-text x = refl

  -- "WRSTR ends before the first cell that is 0": its text is the low bytes of the cells before it.
  pub WRSTR-text : (m : List ℕ) (from : ℕ) {cells : List ℕ} → StringFrom m from cells → string_put out at m from ≡ text_put out at (map low_byte cells)
  unfolding string_put
  WRSTR-text m from s = rw ((rules.string_is m from s).0, (rules.string_is m from s).1)

  -- "a string passing M is 5 and comes before 9": whatever the room, a string that no 0 ends is 5.
  pub WRSTR-unended : (m : List ℕ) (from : ℕ) → Free 0 (drop from m) → string_put out at m from ≡ passed (Err 5) out
  unfolding string_put
  WRSTR-unended m from f = rw (rules.no_string m from f)

-- From each cell there is a string, none of whose cells is 0 and after which a 0 stands, or no cell is 0; and there is no other string.
pub string_or_none : (m : List ℕ) (from : ℕ) → StringFrom m from (string_of (drop from m)) ⊎ Free 0 (drop from m)
string_or_none = rules.string_or_none

pub one-string : (m : List ℕ) (from : ℕ) {cells cells' : List ℕ} → StringFrom m from cells → StringFrom m from cells' → cells ≡ cells'
one-string m from s t = sym (rules.string_is m from s).1 ∙ (rules.string_is m from t).1

-- ---- input

module _ (input : List ℕ) (at : ℕ) where
  -- "INCHAR takes a byte".
  pub INCHAR-takes : at < length input → byte_taken input at ≡ Ok (record { value = get_or input at 0; after = at + 1 })
  INCHAR-takes = byte-taken input at

  -- "ININT .. a line, its LF taken": it reads the number of the line at the position and stops after the line.
  pub ININT-reads : {line : List ℕ} {next : ℕ} → at < length input → Line input at line next → number_taken input at ≡ Ok (record { value = line_number line; after = next })
  ININT-reads = rules.line_read input at

  -- "INSTR a line, its LF taken, not kept; INSTR adds a 0 cell": where they fit, the line's bytes and a 0 stand in memory from the
  -- cell on, and everything else is as it was.
  pub INSTR_stores : {line : List ℕ} {next : ℕ} → at < length input → Line input at line next → (m : List ℕ) (to : ℕ) → to + length line + 1 ≤ length m
      → ((string_taken m to input at).moved ≡ Ok next) × Stands m to (line ++ (0 ∷ [])) (string_taken m to input at).row
  INSTR_stores here its m to h = rw (rules.line_stored input at here its m to h) (refl, rules.stands m to _ (omega arith))

  -- "a string passing M is 5": the memory is as it was.
  pub INSTR_too_long : {line : List ℕ} {next : ℕ} → at < length input → Line input at line next → (m : List ℕ) (to : ℕ) → length m < to + length line + 1
      → string_taken m to input at ≡ passed (Err 5) m
  INSTR_too_long = rules.line_too_long input at

  -- "8 input at its end": where no byte is left, and only there (the three above).
  pub INCHAR_at_end : length input ≤ at → byte_taken input at ≡ Err 8
  INCHAR_at_end = byte-none input at

  pub ININT_at_end : length input ≤ at → number_taken input at ≡ Err 8
  ININT_at_end = number-none input at

  pub INSTR_at_end : (m : List ℕ) (to : ℕ) → length input ≤ at → string_taken m to input at ≡ passed (Err 8) m
  INSTR_at_end m to = string-none m to input at

  -- Each position has one line: up to its LF, or to the input's end.
  pub every-line : Line input at (line_at input at) (after_line input at)
  every-line = rules.every-line input at

  pub one_line : {line line' : List ℕ} {next next' : ℕ} → Line input at line next → Line input at line' next' → (line ≡ line') × (next ≡ next')
  one_line a b =
      (sym (rules.line_is input at a).0 ∙ (rules.line_is input at b).0, sym (rules.line_is input at a).1 ∙ (rules.line_is input at b).1)

-- ---- refusals, examples, and one reply

-- "All change nothing": a refusal leaves the row as it was lent.
pub refused-WRCHAR : (out : List ℕ) (at x : ℕ) {k : ℕ} → (byte_put out at x).moved ≡ Err k → (byte_put out at x).row ≡ out
refused-WRCHAR out at x e = ((WRCHAR-keeps out at x).refuses e).0

pub refused-WRINT : (out : List ℕ) (at x : ℕ) {k : ℕ} → (number_put out at x).moved ≡ Err k → (number_put out at x).row ≡ out
refused-WRINT out at x e = ((WRINT-keeps out at x).refuses e).0

pub refused-WRSTR : (out : List ℕ) (at : ℕ) (m : List ℕ) (from : ℕ) {k : ℕ} → (string_put out at m from).moved ≡ Err k → (string_put out at m from).row ≡ out
refused-WRSTR out at m from e = ((WRSTR-keeps out at m from).refuses e).0

pub refused-INSTR : (m : List ℕ) (to : ℕ) (input : List ℕ) (at : ℕ) {k : ℕ} → (string_taken m to input at).moved ≡ Err k → (string_taken m to input at).row ≡ m
refused-INSTR m to input at e = ((INSTR-keeps input at m to).refuses e).0

-- Cases that are easily misread.
pub examples : Examples
examples = worked.examples

-- "That two replies meeting it coincide": of a value taken, and of a row with the position or stop beside it.
pub values_coincide : {meaning r s : Result Taken ℕ} → r ≡ meaning → s ≡ meaning → r ≡ s
values_coincide p q = p ∙ sym q

pub rows-coincide : {meaning : Passed} {r s : Result ℕ ℕ} {xs ys : List ℕ} → passed r xs ≡ meaning → passed s ys ≡ meaning → (r ≡ s) × (xs ≡ ys)
rows-coincide p q = (ap (λ (a : Passed). a.moved) (p ∙ sym q), ap (λ (a : Passed). a.row) (p ∙ sym q))
