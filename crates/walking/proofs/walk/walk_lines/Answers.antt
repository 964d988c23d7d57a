-- The loop over the lines: `Left` holds at each turn, and each turn is a law of Walks.antt.
use borrow.Author.Rules.{rules}
use native.Mathlib.Omega.{arith}
use Prim.Native.Nat.{◌+◌, ◌≤◌}
use mathlib.Core.Path.{◌≡◌, refl, sym, ap}
use lib.ListN.{length}
use Rattle.std.proofs.lemmas.Result.{err_from_is_err_and}
use Rattle.statements.specs.declared.LineRead.{LineRead}
use Rattle.labels.proofs.Mapped.{mapped-ok, mapped-err}
use Rattle.walking.specs.declared.Stopped.TheVariants.{InLine}
use Rattle.placing.specs.Inner.State.{place_in}
use Rattle.walking.proofs.Walks.{left_at_start, end-within, line_part, line-fits, turns_over, turn-stops, turn-room, turn-goes}
use Rattle.walking.proofs.walk.walk_lines.Goals as goal

pub loop-from-init : goal.loop-from-init
loop-from-init c =
    let a = c.args in
    let pre = c.requires in
    left_at_start a.s.now a.starts.now a.keys.now a.values.now a.marks.now a.cells.now a.row.now a.aways.now
    pre.rows.starts-long pre.rows.keys_long pre.rows.values_long pre.marks-empty pre.cells-empty

pub place_line-placed-requires : goal.place_line-placed-requires
place_line-placed-requires c =
    let e = c.line_end-end.ensures in
    let test = c.loop-from-test.true in
    let p = c.loop-from in
    let a = c.args in
    let s = a.s.now in
    let m = length a.marks.now in
    let pre = c.requires in
    let i = p.invariant in (
      i.fair,
      record { starts-long = i.starts-long; keys_long = i.keys_long; values_long = i.values_long },
      omega (arith, i.marks-long, pre.few-cells),
      c.read_line-read.ensures,
      line-fits m s p.starts p.keys p.values p.marks p.cells p.row p.aways (length a.cells.now) (length a.row.now)
          (length a.aways.now) p.c p.from p.number p.uses p.invariant test e pre.short,
      line_part s p.from c.line_end-end.result,
    )

pub returns-in_err-c : goal.returns-in_err-c
returns-in_err-c c =
    let e = c.line_end-end.ensures in
    let test = c.loop-from-test.true in
    let p = c.loop-from in
    let a = c.args in
    let s = a.s.now in
    let m = length a.marks.now in
    let l = c.place_line-placed in
    let starts = l.new.starts in
    let keys = l.new.keys in
    let values = l.new.values in
    let marks = l.new.marks in
    let f = mapped-err l.result _ c.map_err.ensures.cases c.in_err-c.was in
    let told : c.in_err-c.field-0.0 ≡ InLine f.0 (record { 0 = p.number + 1 }) = search (rules, f.2) in
    let r = err_from_is_err_and c.from_residual.result c.from_residual.ensures.1 in
    rw (r.1, r.2, told) (turn-stops m s p.starts p.keys p.values p.marks p.cells p.row p.aways (length a.cells.now) (length a.row.now)
    (length a.aways.now) p.c p.from p.number p.uses p.invariant test e (place_in s starts keys values marks) f.1 (l.ensures.1 (p.number + 1)))

pub keep_line-uses-requires : goal.keep_line-uses-requires
keep_line-uses-requires c =
    let e = c.line_end-end.ensures in
    let test = c.loop-from-test.true in
    let p = c.loop-from in
    let a = c.args in
    let s = a.s.now in
    let m = length a.marks.now in
    let pre = c.requires in
    let i = p.invariant in
    let l = c.place_line-placed in
    let starts = l.new.starts in
    let keys = l.new.keys in
    let values = l.new.values in
    let marks = l.new.marks in
    let r = c.read_line-read.ensures in
    let u = i.few-uses test in (
      ap (λ (x : LineRead). x.statement) (sym r),
      line-fits m s p.starts p.keys p.values p.marks p.cells p.row p.aways (length a.cells.now) (length a.row.now)
          (length a.aways.now) p.c p.from p.number p.uses p.invariant test e pre.short,
      omega (arith, i.few-lines, test, pre.short),
      i.fair.low,
      turn-room m s p.starts p.keys p.values p.marks p.cells p.row p.aways (length a.cells.now) (length a.row.now)
          (length a.aways.now) p.c p.from p.number p.uses p.invariant test e (place_in s starts keys values marks) (mapped-ok l.result _ c.map_err.ensures.cases c.in_ok-c.was)
          (l.ensures.1 (p.number + 1)) r pre.few-cells,
      record {
        cells = omega (arith, u, test, pre.short, pre.room.cells, i.row-long);
        distances = omega (arith, u, test, pre.short, pre.room.distances, i.aways_long);
      },
    )

pub loop-from-preserved : goal.loop-from-preserved
loop-from-preserved c =
    let e = c.line_end-end.ensures in
    let test = c.loop-from-test.true in
    let p = c.loop-from in
    let a = c.args in
    let s = a.s.now in
    let m = length a.marks.now in
    let l = c.place_line-placed in
    let starts = l.new.starts in
    let keys = l.new.keys in
    let values = l.new.values in
    let marks = l.new.marks in
    let k = c.keep_line-uses in
    turn-goes m s p.starts p.keys p.values p.marks p.cells p.row p.aways (length a.cells.now) (length a.row.now)
    (length a.aways.now) p.c p.from p.number p.uses p.invariant test e (place_in s starts keys values marks) (mapped-ok l.result _ c.map_err.ensures.cases c.in_ok-c.was)
    (l.ensures.1 (p.number + 1)) starts keys values marks k.new.cells k.new.row k.new.aways
    c.read_line-read.ensures (λ x. refl) l.ensures.0 l.auto.starts l.auto.keys l.auto.values
    l.auto.marks k.auto.cells k.auto.row k.auto.aways c.requires.short
    k.ensures.0 (k.ensures.1 s (line_part s p.from c.line_end-end.result)) k.ensures.3 c.next_line-from.ensures

pub returns : goal.returns
returns c =
    let p = c.loop-from in
    let a = c.args in
    let s = a.s.now in
    let m = length a.marks.now in
    let o = turns_over m s p.starts p.keys p.values p.marks p.cells p.row p.aways (length a.cells.now) (length a.row.now)
    (length a.aways.now) p.c p.from p.number p.uses p.invariant c.loop-from-test.false in
    (o.0, o.1, o.2, p.invariant.fair, p.invariant.uses_fit)

pub slice_bounds-line-end : goal.slice_bounds-line-end
slice_bounds-line-end c =
    let s = c.args.s.now in
    let h : c.line_end-end.result ≤ length s = end-within s c.loop-from.from c.line_end-end.ensures c.loop-from-test.true in
    search rules
