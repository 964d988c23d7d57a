-- A code run that is listed is its instructions' words, one after another; one that is not has a first instruction that fails.
use Prim.Native.Nat.{ℕ, zero, suc, ◌+◌, ◌-◌, ◌<◌}
use mathlib.Core.Bool.{true}
use mathlib.Core.List.{List, [], ◌∷◌, ◌++◌}
use mathlib.Core.Logic.{◌↔◌}
use mathlib.Core.Path.{◌≡◌, refl, sym, ap, subst, ◌∙◌}
use native.Mathlib.Omega.{arith}
use lib.ListN.{length, take, drop, take-append-drop}
use lib.Seq.{drop-nil, drop-append_seam}
use Rattle.isa.specs.Operands.{operand_words}
use Rattle.isa.specs.Encoding.{words_of, first_word_of, allowed}
use Rattle.isa.specs.Decoding.{decode_of, stop_of, undecoded_stop}
use Rattle.isa.specs.declared.Decoded.{Decoded}
use Rattle.std.proofs.Common.{Result, Ok, Err}
use Rattle.isa.specs.declared.Undecoded.{Undecoded}
use Rattle.isa.specs.declared.Undecoded.TheVariants.{NoOpcode, NoMode, NoRegister, PastMemory}
use Rattle.isa.specs.declared.Address.{Address}
use Rattle.isa.specs.declared.Instruction.{Instruction}
use Rattle.isa.proofs.Tests.{never}
use Rattle.isa.proofs.RoundTrip.{decode_encode, encode_decode, size-read}
use Rattle.listing.specs.Decodes.{Instructions, none, then, FirstUndecoded, here, further}
use Rattle.listing.specs.Inner.Walk.{Parts, whole, fails, before, parts_by, parts_from}

-- what is decoded at the head of a list of words is its first words
head-words : (w : ℕ) (ws : List ℕ) (i : Instruction) (n : Address) → decode_of (w ∷ ws) 0 ≡ Ok (record { instruction = i; next = n })
    → (allowed i ≡ true) × (words_of i ++ drop (n.0 - 1) ws ≡ w ∷ ws)
head-words w ws i n e =
    let r = encode_decode (w ∷ ws) 0 i n e in
    let z : n.0 - 0 ≡ suc (n.0 - 1) = omega (arith, r.onward) in
    let t : words_of i ≡ take (suc (n.0 - 1)) (w ∷ ws) = r.its-words ∙ ap (λ (k : ℕ). take k (w ∷ ws)) z in
    (r.is_allowed, ap (λ (l : List ℕ). l ++ drop (n.0 - 1) ws) t ∙ take-append-drop (suc (n.0 - 1)) (w ∷ ws))

-- a run that decodes within itself
pub parts-words : (ws : List ℕ) (more at : ℕ) (is : List Instruction) → parts_from ws more at ≡ whole is → Instructions (drop more ws) is
unfolding parts_from
parts-words [] more at is e =
    let z : is ≡ [] = cc in
    subst (λ (js : List Instruction). Instructions (drop more []) js) (sym z) (subst (λ (l : List ℕ). Instructions l []) (sym (drop-nil more)) none)
parts-words (w ∷ ws) (suc more) at is e = parts-words ws more (at + 1) is e
parts-words (w ∷ ws) zero at is e = go (decode_of (w ∷ ws) 0) refl e (λ more js f. parts-words ws more (at + 1) js f)
  where
    on : (i : Instruction) (n : Address) → decode_of (w ∷ ws) 0 ≡ Ok (record { instruction = i; next = n }) → (p : Parts) → before i p ≡ whole is
        → ((js : List Instruction) → p ≡ whole js → Instructions (drop (n.0 - 1) ws) js)
        → Instructions (w ∷ ws) is
    on i n f (whole js) e h =
        let z : i ∷ js ≡ is = cc in
        let r = head-words w ws i n f in
        subst (λ (ks : List Instruction). Instructions (w ∷ ws) ks) z (subst (λ (l : List ℕ). Instructions l (i ∷ js)) r.1 (then i r.0 (h js refl)))
    on i n f (fails a) e h = never (cc)

    go : (d : Result Decoded Undecoded) → decode_of (w ∷ ws) 0 ≡ d → parts_by at d (λ more. parts_from ws more (at + 1)) ≡ whole is
        → ((more : ℕ) (js : List Instruction) → parts_from ws more (at + 1) ≡ whole js → Instructions (drop more ws) js)
        → Instructions (w ∷ ws) is
    go (Ok r) f e h = on r.instruction r.next f (parts_from ws (r.next.0 - 1) (at + 1)) e (h (r.next.0 - 1))
    go (Err why) f e h = never (cc)

-- ---- exactly

-- words that belong to the instruction before
parts-skip : (ws : List ℕ) (more at : ℕ) → parts_from ws more at ≡ parts_from (drop more ws) 0 (at + more)
unfolding parts_from
parts-skip [] more at = ap (λ (l : List ℕ). parts_from l 0 (at + more)) (sym (drop-nil more))
parts-skip (w ∷ ws) (suc more) at =
    let z : at + 1 + more ≡ at + suc more = omega arith in
    parts-skip ws more (at + 1) ∙ ap (parts_from (drop more ws) 0) z
parts-skip (w ∷ ws) zero at = let z : at ≡ at + 0 = omega arith in ap (parts_from (w ∷ ws) 0) z

-- an instruction's words first
pub parts-head : (i : Instruction) (ws : List ℕ) (at : ℕ) → allowed i ≡ true
    → parts_from (words_of i ++ ws) 0 at ≡ before i (parts_from ws 0 (at + length (words_of i)))
unfolding parts_from words_of
parts-head i ws at t =
    let os = operand_words i.first ++ operand_words i.second in
    let d : decode_of (first_word_of i ∷ os ++ ws) 0 ≡ Ok (record { instruction = i; next = (record { 0 = 0 + suc (length os) }) }) = decode_encode i [] ws t in
    let z : 0 + suc (length os) - 1 ≡ length os = omega arith in
    let y : at + 1 + length os ≡ at + suc (length os) = omega arith in
    ap (λ (r : Result Decoded Undecoded). parts_by at r (λ more. parts_from (os ++ ws) more (at + 1))) d
    ∙ ap (λ (n : ℕ). before i (parts_from (os ++ ws) n (at + 1))) z
    ∙ ap (before i) (parts-skip (os ++ ws) (length os) (at + 1) ∙ ap (λ (l : List ℕ). parts_from l 0 (at + 1 + length os)) (drop-append_seam os ws)
    ∙ ap (parts_from ws 0) y)

whole_back : {ws : List ℕ} {is : List Instruction} → Instructions ws is → (at : ℕ) → parts_from ws 0 at ≡ whole is
unfolding parts_from
whole_back none at = refl
whole_back (then {ws = ws} i t h) at = parts-head i ws at t ∙ ap (before i) (whole_back h (at + length (words_of i)))

fails-back : {ws : List ℕ} {at a : ℕ} → FirstUndecoded ws at a → parts_from ws 0 at ≡ fails a
unfolding parts_from
fails-back (here {w} {at} {ws} n) = go (decode_of (w ∷ ws) 0) n
  where
    go : (d : Result Decoded Undecoded) → (stop_of d ≡ 0 → ⊥) → parts_by at d (λ more. parts_from ws more (at + 1)) ≡ fails at
    go (Ok r) n = absurd (n refl)
    go (Err why) n = refl
fails-back (further {at} {a} {ws} i t h) = parts-head i ws at t ∙ ap (before i) (fails-back h)

-- what is not decoded has a stop
stops : (why : Undecoded) → 0 < undecoded_stop why
stops NoOpcode = omega arith
stops NoMode = omega arith
stops NoRegister = omega arith
stops PastMemory = omega arith

first-fails : (ws : List ℕ) (more at a : ℕ) → parts_from ws more at ≡ fails a → FirstUndecoded (drop more ws) (at + more) a
unfolding parts_from
first-fails [] more at a e = never (cc)
first-fails (w ∷ ws) (suc more) at a e =
    let z : at + 1 + more ≡ at + suc more = omega arith in
    subst (λ (x : ℕ). FirstUndecoded (drop more ws) x a) z (first-fails ws more (at + 1) a e)
first-fails (w ∷ ws) zero at a e =
    let z : at ≡ at + 0 = omega arith in
    subst (λ (x : ℕ). FirstUndecoded (w ∷ ws) x a) z (go (decode_of (w ∷ ws) 0) refl e (λ more b f. first-fails ws more (at + 1) b f))
  where
    on : (i : Instruction) (n : Address) → decode_of (w ∷ ws) 0 ≡ Ok (record { instruction = i; next = n }) → (p : Parts) → before i p ≡ fails a
        → ((b : ℕ) → p ≡ fails b → FirstUndecoded (drop (n.0 - 1) ws) (at + 1 + (n.0 - 1)) b)
        → FirstUndecoded (w ∷ ws) at a
    on i n f (whole js) e h = never (cc)
    on i n f (fails b) e h =
        let r = head-words w ws i n f in
        let s = encode_decode (w ∷ ws) 0 i n f in
        let z : at + 1 + (n.0 - 1) ≡ at + length (words_of i) = omega (arith, s.onward, size-read (w ∷ ws) 0 i n f) in
        subst (λ (ks : List ℕ). FirstUndecoded ks at a) r.1
        (further i r.0 (subst (λ (x : ℕ). FirstUndecoded (drop (n.0 - 1) ws) x a) z (h a e)))

    none-there : (stop_of (decode_of (w ∷ ws) 0) ≡ 0 → ⊥) → fails at ≡ fails a → FirstUndecoded (w ∷ ws) at a
    none-there n e = let z : at ≡ a = cc in subst (λ (x : ℕ). FirstUndecoded (w ∷ ws) at x) z (here n)

    go : (d : Result Decoded Undecoded) → decode_of (w ∷ ws) 0 ≡ d → parts_by at d (λ more. parts_from ws more (at + 1)) ≡ fails a
        → ((more b : ℕ) → parts_from ws more (at + 1) ≡ fails b → FirstUndecoded (drop more ws) (at + 1 + more) b)
        → FirstUndecoded (w ∷ ws) at a
    go (Ok r) f e h = on r.instruction r.next f (parts_from ws (r.next.0 - 1) (at + 1)) e (h (r.next.0 - 1))
    go (Err why) f e h = none-there (λ z. let y = ap stop_of f in omega (arith, y, z, stops why)) e

-- a code run is listed exactly where it is the words of instructions, those
pub whole-exactly : (ws : List ℕ) (at : ℕ) (is : List Instruction) → (parts_from ws 0 at ≡ whole is) ↔ Instructions ws is
whole-exactly ws at is = (λ e. parts-words ws 0 at is e, λ h. whole_back h at)

-- and refused exactly with the address of its first instruction that fails
pub fails-exactly : (ws : List ℕ) (at a : ℕ) → (parts_from ws 0 at ≡ fails a) ↔ FirstUndecoded ws at a
fails-exactly ws at a =
    let z : at + 0 ≡ at = omega arith in
    (λ e. subst (λ (x : ℕ). FirstUndecoded ws x a) z (first-fails ws 0 at a e), λ h. fails-back h)
