-- A comma takes a byte of the line.
use Prim.Native.Nat.{ℕ, ◌≤◌, ◌<◌}
use Prim.Native.Char.{code}
use mathlib.Core.Bool.{Bool, true, false, cond}
use mathlib.Core.List.{List}
use mathlib.Core.Path.{◌≡◌, refl, ap}
use native.Mathlib.Omega.{arith}
use lib.Dec.{eqb}
use lib.ListN.{length}
use Rattle.numerals.specs.declared.Cursor.{Cursor}
use Rattle.tokens.specs.Reading.{token_at}
use Rattle.tokens.specs.Commas.{follows_by, follows_of}
use Rattle.tokens.specs.declared.Follows.TheVariants.{Comma, Neither}
use Rattle.tokens.specs.declared.Kind.{Kind}
use Rattle.tokens.specs.declared.Kind.TheVariants.{End, Stray, Word, Number, Text, Mark}
use Rattle.tokens.proofs.Places.{token_placed}
use Rattle.tokens.proofs.Heads.{ends_of}

pub comma-moves : (s : List ℕ) (at : ℕ) {c : Cursor} → follows_of (token_at s at) ≡ Comma c → (at < c.at) × (c.at ≤ length s)
comma-moves s at {c} e = go (token_at s at).kind refl e
  where
    go : (k : Kind) → (token_at s at).kind ≡ k → follows_by k (token_at s at).next ≡ Comma c → (at < c.at) × (c.at ≤ length s)
    go End q e = let z : ◌≡◌ {A = ℕ} 0 1 = cc in absurd (omega arith)
    go Stray q e = let z : ◌≡◌ {A = ℕ} 0 1 = cc in absurd (omega arith)
    go Word q e = let z : ◌≡◌ {A = ℕ} 0 1 = cc in absurd (omega arith)
    go (Number v k) q e = let z : ◌≡◌ {A = ℕ} 0 1 = cc in absurd (omega arith)
    go Text q e = let z : ◌≡◌ {A = ℕ} 0 1 = cc in absurd (omega arith)
    go (Mark b) q e = mark (eqb b (code ",")) e
      where
        mark : (y : Bool) → cond y (Comma (token_at s at).next) Neither ≡ Comma c → (at < c.at) × (c.at ≤ length s)
        mark true e =
            let p : (token_at s at).next.at ≡ c.at = ap (λ (x : Cursor). x.at) (cc) in
            let h = ends_of s at q in
            (omega (arith, (token_placed s at).starts, h.0), omega (arith, h.1))
        mark false e = let z : ◌≡◌ {A = ℕ} 0 1 = cc in absurd (omega arith)
