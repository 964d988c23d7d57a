-- What the inner functions promise one another: what begins at an address, and the lines from there on.
use Rattle.std.specs.Prelude.{ℕ, suc, ◌+◌, ◌<◌, Bool, true, false, cond, ◌&&◌, List, [], ◌∷◌, ◌++◌, eqb, leb, length, get_or, drop}
use Rattle.std.proofs.Math.Seq.{slice}
use Rattle.codes.specs.Limits.{most_cells}
use Rattle.codes.specs.Marks.{free, code_mark, reserved_mark}
use Rattle.isa.specs.Decoding.{decode_of}
use Rattle.isa.specs.declared.Decoded.{Decoded}
use Rattle.std.specs.Prelude.{Result, Ok, Err}
use Rattle.isa.specs.declared.Address.{Address}
use Rattle.isa.specs.declared.Undecoded.{Undecoded}
use Rattle.listing.specs.Lines.{text_of_lines}
use Rattle.listing.specs.Listing.{origin_at}
use Rattle.listing.specs.declared.Begins.{Begins}
use Rattle.listing.specs.declared.Begins.TheVariants as B
use Rattle.listing.specs.declared.Entry.{Entry}
use Rattle.listing.specs.declared.Entry.TheVariants.{Origin, Instructs, Holds, Reserves, Finish}
use Rattle.listing.specs.Inner.Walk.{Found, found, failing, runs_from, lines_from}

-- every mark is that of code
unfoldable pub every_code : List ℕ → Bool
every_code [] = true
every_code (k ∷ ks) = eqb k code_mark && every_code ks

-- an instruction whose words are all marked as code
abbrev pub code_by : List ℕ → ℕ → Result Decoded Undecoded → Begins
code_by marks at (Ok r) = cond (every_code (slice at r.next.0 marks)) (B.Line (Instructs r.instruction) r.next) B.Fails
code_by marks at (Err why) = B.Fails

-- how many marks at the head of a map are those of reserved cells
unfoldable pub reserved_run : List ℕ → ℕ
reserved_run [] = 0
reserved_run (k ∷ ks) = cond (eqb k reserved_mark) (suc (reserved_run ks)) 0

-- so many reserved cells from an address on, as far as one RES goes
abbrev pub reserved_by : ℕ → ℕ → Begins
reserved_by at n =
    cond (leb n 65535) (B.Line (Reserves n) (record { 0 = at + n })) (B.Line (Reserves 65535) (record { 0 = at + 65535 }))

-- what begins at an address
unfoldable pub begins_at : List ℕ → List ℕ → ℕ → Begins
begins_at memory marks at =
    cond (eqb (get_or marks at free) free)
    B.Nothing
    (cond (eqb (get_or marks at free) code_mark)
    (code_by marks at (decode_of memory at))
    (cond (eqb (get_or marks at free) reserved_mark)
    (reserved_by at (reserved_run (drop at marks)))
    (B.Line (Holds (get_or memory at 0)) (record { 0 = at + 1 }))))

-- the lines from an address on, `behind` being the address behind the last line
abbrev pub rest : List ℕ → List ℕ → ℕ → ℕ → Found
rest memory marks behind at = lines_from behind (runs_from at (drop at memory) (drop at marks))

-- the text of a line that begins at an address, with its ORG
abbrev pub line_text : ℕ → ℕ → Entry → List ℕ
line_text behind at e = text_of_lines (origin_at behind at ++ (e ∷ []))

-- the text of lines that were found
abbrev pub found_text : Found → List ℕ
found_text (found es) = text_of_lines es
found_text (failing a) = []

abbrev pub was_found : Found → Bool
was_found (found es) = true
was_found (failing a) = false

-- how long that text is, or where it fails
abbrev pub measure_of : Found → Result ℕ Address
measure_of (found es) = Ok (length (text_of_lines es))
measure_of (failing a) = Err (record { 0 = a })

-- an origin's address is one that ORG takes
abbrev pub Addressed : Entry → Type 0
Addressed (Origin a) = a.0 < most_cells
Addressed (Instructs i) = Unit {0}
Addressed (Holds x) = Unit {0}
Addressed (Reserves n) = Unit {0}
Addressed Finish = Unit {0}

-- a line and its ORG are no longer than this
abbrev pub longest_lines : ℕ
longest_lines = 64
