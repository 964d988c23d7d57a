-- The code runs that an accepted source leaves decode within themselves: what is left of a run begins with a whole block.
use Prim.Native.Nat.{ℕ, zero, suc, ◌+◌, ◌-◌, ◌≤◌, ◌<◌}
use mathlib.Core.Bool.{Bool, true, false, cond}
use mathlib.Core.List.{List, [], ◌∷◌, ◌++◌, Memᴰ}
use mathlib.Core.Logic.{◌⊎◌, inl, inr}
use mathlib.Core.Path.{◌≡◌, refl, sym, ap, subst, ◌∙◌}
use native.Mathlib.Decide.{dec_lt}
use native.Mathlib.Omega.{arith}
use lib.ListN.{length, get_or, take, drop, take-append-drop, length-append}
use lib.Seq.{ext_get_or, get_or-take, length-take-le}
use Rattle.codes.specs.Marks.{free, code_mark, largest_mark}
use Rattle.isa.specs.Encoding.{words_of, allowed}
use Rattle.isa.specs.Decoding.{decode_of, stop_of}
use Rattle.std.proofs.Common.{Option, Result, Ok, Err}
use Rattle.statements.specs.declared.Failure.{Failure}
use Rattle.operands.specs.declared.Operands.{Operands}
use Rattle.values.specs.declared.Name.{Name}
use Rattle.operands.specs.declared.OperandsFault.{OperandsFault}
use Rattle.isa.specs.declared.Decoded.{Decoded}
use Rattle.isa.specs.declared.Instruction.{Instruction}
use Rattle.isa.specs.declared.Opcode.{Opcode}
use Rattle.isa.specs.declared.Undecoded.{Undecoded}
use Rattle.isa.proofs.Top as isa
use Rattle.items.specs.Items.{cells_of, all_in_range}
use Rattle.operands.specs.Checks as Operands
use Rattle.operands.specs.Settling.{settled_instruction}
use Rattle.operands.specs.declared.Written.{Written}
use Rattle.statements.specs.Judging.{judged, instruction_result}
use Rattle.statements.specs.Statements.{Reading, nothing, instruction, org, equ, res, cells, end, Says}
use Rattle.statements.specs.declared.Failure.TheVariants as F
use Rattle.statements.specs.declared.Statement.{Statement}
use Rattle.statements.specs.declared.Statement.TheVariants as S
use Rattle.sources.specs.Sources.{Said}
use Rattle.sources.specs.Placing.{does, does_read, Bound, judged_line, next_from}
use Rattle.sources.specs.Image.{word_in, code_read, given_by, Block, blocks_of, Has, Apart, Image}
use Rattle.sources.proofs.Contents.{PassesAs, as_res, passes_as, statement-read}
use Rattle.sources.proofs.Filling.{Read}
use Rattle.sources.proofs.Images.{Somewhere, Nowhere, somewhere}
use Rattle.sources.proofs.Small.{settled-allowed}
use Rattle.listing.specs.Decodes.{FirstUndecoded, here, further}
use Rattle.listing.specs.Listing.{FirstBadRun}
use Rattle.listing.specs.Listing as L
use Rattle.listing.specs.Runs.{Run, HoldCells, FirstRun, Runs, over, next}
use Rattle.recovered.proofs.Listed.{second_part}

one-instruction : {d e : Decoded} → ◌≡◌ {A = Result Decoded Undecoded} (Ok d) (Ok e) → d.instruction ≡ e.instruction
one-instruction {d} {e} r = let q : d ≡ e = cc in ap (λ (x : Decoded). x.instruction) q

-- ---- blocks of code are instructions

abbrev pub IsCode : List ℕ → Type 0
IsCode ws = (length ws ≡ 0) ⊎ ((i : Instruction) × (allowed i ≡ true) × (ws ≡ words_of i))

module _ (bs : List Bound) (bytes : List ℕ) (next : ℕ) where
  code_read_lem : (op : Opcode) (os : List Written) {l : Option Name} → Says bytes l (instruction op os) → (i : Result Operands OperandsFault) → Operands.judged op os ≡ i
      → IsCode (code_read bs bytes next op i)
  unfolding judged
  code_read_lem op os x (Ok r) e =
      let f = statement-read bytes (instruction op os) x (ap (instruction_result op) e) in
      let v = word_in bs bytes next r.first in
      let w = word_in bs bytes next r.second in
      inr (settled_instruction op r.first r.second v w, settled-allowed bytes f v w, refl)
  code_read_lem op os x (Err why) e = inl refl

  code-given : {l : Option Name} (r : Reading) → Says bytes l r → (does_read (judged r)).mark ≡ code_mark → IsCode (given_by bs bytes next r)
  unfolding judged does
  code-given nothing x e = inl refl
  code-given (instruction op os) x e = code_read_lem op os x (Operands.judged op os) refl
  code-given (org t) x e = inl refl
  code-given (equ t) x e = inl refl
  code-given (res t) x e = absurd (go (judged (res t)) refl e)
    where
      reserving : {s : Statement} → PassesAs (res t) s → (does s).mark ≡ code_mark → ⊥
      reserving (as_res f) e = omega arith

      go : (s : Result Statement Failure) → judged (res t) ≡ s → (does_read s).mark ≡ code_mark → ⊥
      go (Ok s) q e = reserving (passes_as (res t) q) e
      go (Err why) q e = omega arith
  code-given (cells is) x e = absurd (go (all_in_range is) e)
    where
      go : (b : Bool) → (does_read (cond b (Ok (S.Data (length (cells_of is)))) (Err F.OutOfRange))).mark ≡ code_mark → ⊥
      go true e = omega arith
      go false e = omega arith
  code-given end x e = inl refl

pub code-blocks : (bs : List Bound) (xs : List Said) → Read xs → (at : ℕ) (b : Block) → Memᴰ b (blocks_of bs at xs) → b.mark ≡ code_mark
    → IsCode b.given
unfolding blocks_of
code-blocks bs [] h at b m e = elim m [ ]
code-blocks bs (x ∷ xs) h at b (Memᴰ.head q) e =
    subst (λ (c : Block). c.mark ≡ code_mark → IsCode c.given) (sym q)
    (code-given bs x.bytes (next_from at (judged_line x)) x.says h.0) e
code-blocks bs (x ∷ xs) h at b (Memᴰ.tail m) e = code-blocks bs xs h.1 _ b m e

-- ---- marks are 0 to 3

mark-low : (s : Statement) → (does s).mark ≤ largest_mark
unfolding does
mark-low S.Nothing = omega arith
mark-low (S.Instruction op a b) = omega arith
mark-low (S.Org v) = omega arith
mark-low (S.Equ v) = omega arith
mark-low (S.Res v) = omega arith
mark-low (S.Data n) = omega arith
mark-low S.End = omega arith

read_low : (s : Result Statement Failure) → (does_read s).mark ≤ largest_mark
read_low (Ok s) = mark-low s
read_low (Err f) = omega arith

pub low-blocks : (bs : List Bound) (xs : List Said) (at : ℕ) (b : Block) → Memᴰ b (blocks_of bs at xs) → b.mark ≤ largest_mark
unfolding blocks_of
low-blocks bs [] at b m = elim m [ ]
low-blocks bs (x ∷ xs) at b (Memᴰ.head q) = subst (λ (c : Block). c.mark ≤ largest_mark) (sym q) (read_low (judged x.says))
low-blocks bs (x ∷ xs) at b (Memᴰ.tail m) = low-blocks bs xs _ b m

pub image-low : {M : ℕ} {bs : List Block} {memory marks : List ℕ} → Image M bs memory marks → ((b : Block) → Memᴰ b bs → b.mark ≤ largest_mark)
    → (a : ℕ) → get_or marks a free ≤ largest_mark
image-low {bs = bs} {memory} {marks} i h a = go (somewhere bs a)
  where
    go : Somewhere bs a ⊎ Nowhere bs a → get_or marks a free ≤ largest_mark
    go (inl (b, m, (j, l, e))) =
        let g = (i.given b m j l).1 in
        let z = ap (λ (x : ℕ). get_or marks x free) e in
        omega (arith, g, z, h b m)
    go (inr n) = let z = (i.elsewhere a n).1 in omega (arith, z)

-- ---- blocks and cells

-- a cell is in one block
shared : (bs : List Block) → Apart bs → (b c : Block) → Memᴰ b bs → Memᴰ c bs → (a : ℕ) → Has b a → Has c a → b ≡ c
unfolding Apart
shared [] h b c m n a p q = elim m [ ]
shared (d ∷ ds) h b c (Memᴰ.head e) (Memᴰ.head f) a p q = e ∙ sym f
shared (d ∷ ds) h b c (Memᴰ.head e) (Memᴰ.tail n) a p q = absurd (h.0 c n a (subst (λ (x : Block). Has x a) e p) q)
shared (d ∷ ds) h b c (Memᴰ.tail m) (Memᴰ.head f) a p q = absurd (h.0 b m a (subst (λ (x : Block). Has x a) f q) p)
shared (d ∷ ds) h b c (Memᴰ.tail m) (Memᴰ.tail n) a p q = shared ds h.1 b c m n a p q

-- an instruction has a word at least
some_words : (i : Instruction) (ws : List ℕ) → 0 < length (words_of i ++ ws)
unfolding words_of
some_words i ws = omega arith

module _ (M : ℕ) (bs : List Block) (memory marks : List ℕ) (image : Image M bs memory marks) (apart : Apart bs)
    (code : (b : Block) → Memᴰ b bs → b.mark ≡ code_mark → IsCode b.given) where
  -- a block that has this cell begins with it
  abbrev Boundary : ℕ → Type 0
  Boundary a = (b : Block) → Memᴰ b bs → Has b a → b.from ≡ a

  in_block : (a : ℕ) → get_or marks a free ≡ code_mark → Somewhere bs a
  in_block a e = go (somewhere bs a)
    where
      go : Somewhere bs a ⊎ Nowhere bs a → Somewhere bs a
      go (inl s) = s
      go (inr n) = let z = (image.elsewhere a n).1 in absurd (omega (arith, z, e))

  -- the instruction at the head of what is left of a code run
  record Head (at : ℕ) (ws : List ℕ) : Type 0 where
    is : Instruction
    decodes : decode_of ws 0 ≡ Ok (record { instruction = is; next = record { 0 = 0 + length (words_of is) } })
    behind : Boundary (at + length (words_of is))

  head : (at : ℕ) (ws : List ℕ) → 0 < length ws → HoldCells memory marks at ws code_mark → (get_or marks (at + length ws) free ≡ code_mark → ⊥) → Boundary at
      → Head at ws
  head at ws l h n starts =
      let z : at + 0 ≡ at = omega arith in
      let k : get_or marks at free ≡ code_mark = ap (λ (a : ℕ). get_or marks a free) (sym z) ∙ (h 0 l).1 in
      let s = in_block at k in
      let b = s.0 in
      let f = starts b s.1 s.2 in
      let c : b.mark ≡ code_mark = sym (image.given b s.1 s.2.0 s.2.1).1 ∙ ap (λ (a : ℕ). get_or marks a free) (sym s.2.2) ∙ k in
      go b s.1 f s.2 c (code b s.1 c)
    where
      go : (b : Block) → Memᴰ b bs → b.from ≡ at → Has b at → b.mark ≡ code_mark → IsCode b.given → Head at ws
      go b m f p c (inl e) = absurd (omega (arith, e, p.1))
      go b m f p c (inr (i, t, e)) = record {
        is = i;
        decodes = subst (λ (l : List ℕ). decode_of l 0 ≡ Ok (record { instruction = i; next = record { 0 = 0 + length (words_of i) } })) whole_run
            (isa.decode_encode i [] (drop (length (words_of i)) ws) t);
        behind = past;
      }
        where
          lengths : length b.given ≡ length (words_of i)
          lengths = ap length e

          -- the words are the run's
          cell : (j : ℕ) → j < length (words_of i) → (get_or memory (at + j) 0 ≡ get_or (words_of i) j 0) × (get_or marks (at + j) free ≡ code_mark)
          cell j q =
              let g = image.given b m j (omega (arith, lengths)) in
              let y : b.from + j ≡ at + j = omega arith in (
                ap (λ (a : ℕ). get_or memory a 0) (sym y) ∙ g.0 ∙ ap (λ (l : List ℕ). get_or l j 0) e,
                ap (λ (a : ℕ). get_or marks a free) (sym y) ∙ g.1 ∙ c,
              )

          inside : length (words_of i) ≤ length ws
          inside =
              elim (dec_lt (length ws) (length (words_of i))) [
                | yes q ↦ absurd (n (cell (length ws) q).1)
                | no q ↦ omega arith
              ]

          head_is : take (length (words_of i)) ws ≡ words_of i
          head_is =
              let y = length-take-le (length (words_of i)) ws inside in
              ext_get_or 0 (take (length (words_of i)) ws) (words_of i) y
              (λ j q. let r : j < length (words_of i) = omega (arith, q, y) in
              get_or-take (length (words_of i)) ws j 0 r ∙ sym (h j (omega (arith, inside))).0 ∙ (cell j r).0)

          whole_run : words_of i ++ drop (length (words_of i)) ws ≡ ws
          whole_run = ap (λ (l : List ℕ). l ++ drop (length (words_of i)) ws) (sym head_is) ∙ take-append-drop (length (words_of i)) ws

          past : Boundary (at + length (words_of i))
          past d o (zero, q, r) = omega arith
          past d o (suc j, q, r) =
              let u = shared bs apart b d m o (d.from + j) (length (words_of i) - 1, omega (arith, p.1, lengths), omega (arith, p.1, lengths)) (j, omega arith, refl) in
              let x = ap (λ (v : Block). v.from) u in
              let y = ap (λ (v : Block). length v.given) u in
              absurd (omega (arith, x, y, lengths, f))

  run-decodes : {ws : List ℕ} {at a : ℕ} → FirstUndecoded ws at a → HoldCells memory marks at ws code_mark
      → (get_or marks (at + length ws) free ≡ code_mark → ⊥)
      → Boundary at → ⊥
  run-decodes (here {w} {at} {ws} stops) h n s = stops (ap stop_of (head at (w ∷ ws) (omega arith) h n s).decodes)
  run-decodes (further {at} {ws = ws} i t u) h n s =
      let x = head at (words_of i ++ ws) (some_words i ws) h n s in
      let j : i ≡ x.is = one-instruction (sym (isa.decode_encode i [] ws t) ∙ x.decodes) in
      let z : at + length (words_of i) + length ws ≡ at + length (words_of i ++ ws) = omega (arith, length-append (words_of i) ws) in
      run-decodes u (second_part memory marks at code_mark (words_of i) ws h) (λ q. n (ap (λ (b : ℕ). get_or marks b free) (sym z) ∙ q))
      (subst (λ (k : Instruction). Boundary (at + length (words_of k))) (sym j) x.behind)

  -- a code cell is not preceded by one
  abbrev Parted : ℕ → Type 0
  Parted at = (a : ℕ) → a + 1 ≡ at → get_or marks at free ≡ code_mark → get_or marks a free ≡ code_mark → ⊥

  run-never : {at a : ℕ} (r : Run) → FirstRun memory marks at r → Parted at → r.mark ≡ code_mark → FirstUndecoded r.cells r.from a → ⊥
  run-never {at} r c d k u =
      run-decodes u (subst (λ (m : ℕ). HoldCells memory marks r.from r.cells m) k c.agrees) (λ q. c.stops (q ∙ sym k)) starts
    where
      starts : Boundary r.from
      starts b m (zero, q, t) = omega arith
      starts b m (suc j, q, t) =
          let z : r.from + 0 ≡ r.from = omega arith in
          let u : get_or marks r.from free ≡ code_mark = ap (λ (x : ℕ). get_or marks x free) (sym z) ∙ (c.agrees 0 c.some).1 ∙ k in
          let v = (image.given b m (suc j) q).1 in
          let w = (image.given b m j (omega arith)).1 in
          let y : get_or marks (b.from + j) free ≡ code_mark = w ∙ sym v ∙ ap (λ (x : ℕ). get_or marks x free) (sym t) ∙ u in
          elim (dec_lt at r.from) [
            | yes l ↦ let i = c.between (b.from + j) (omega arith) (omega arith) in absurd (omega (arith, i, y))
            | no l ↦
                let x : r.from ≡ at = omega (arith, c.further) in
                absurd (d (b.from + j) (omega arith) (subst (λ (p : ℕ). get_or marks p free ≡ code_mark) x u) y)
          ]

  parted-next : {at : ℕ} (r : Run) → FirstRun memory marks at r → Parted (r.from + length r.cells)
  parted-next r c a e u v =
      let z : r.from + (length r.cells - 1) ≡ a = omega (arith, c.some) in
      let g = (c.agrees (length r.cells - 1) (omega (arith, c.some))).1 in
      let k : r.mark ≡ code_mark = sym g ∙ ap (λ (x : ℕ). get_or marks x free) z ∙ v in
      c.stops (u ∙ sym k)

  -- no run fails
  pub runs_decode : {at a : ℕ} {rs : List Run} → Runs memory marks at rs → Parted at → FirstBadRun rs a → ⊥
  runs_decode (over f) d b = elim b [ ]
  runs_decode (next {r = r} c t) d (L.here k u) = run-never r c d k u
  runs_decode (next {r = r} c t) d (L.later x u) = runs_decode t (parted-next r c) u
