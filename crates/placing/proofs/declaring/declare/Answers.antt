-- Each refusal is the first test that fails; behind the last test, the rows hold one label more.
use Prim.Native.Nat.{◌+◌, ◌-◌}
use mathlib.Core.Path.{refl}
use native.Mathlib.Omega.{arith}
use borrow.Author.Tests.{lt-ltb, le-ltb, le-leb, lt-leb}
use Rattle.codes.specs.Limits.{most_labels, longest_label}
use Rattle.placing.proofs.LabelLaws.{label_by, label-held}
use Rattle.placing.proofs.declaring.declare.Goals as goal

pub returns-then-size-gt-LONGEST_LABEL : goal.returns-then-size-gt-LONGEST_LABEL
returns-then-size-gt-LONGEST_LABEL c =
    let a = c.args in
    let p = c.requires in (
      tt,
      λ k vs ms l. label_by a.s.now a.starts.now a.keys.now a.line.now vs ms a.c a.n k
          (record { fair = p.0; starts-long = p.1; keys_long = p.2; values_long = l; order = p.3; within = p.4 })
          (lt-ltb longest_label (a.n.end - a.n.start) c.if-size-gt-LONGEST_LABEL.true) refl refl refl,
    )

pub returns-then-count-ge-MOST_LABELS : goal.returns-then-count-ge-MOST_LABELS
returns-then-count-ge-MOST_LABELS c =
    let a = c.args in
    let p = c.requires in (
      tt,
      λ k vs ms l. label_by a.s.now a.starts.now a.keys.now a.line.now vs ms a.c a.n k
          (record { fair = p.0; starts-long = p.1; keys_long = p.2; values_long = l; order = p.3; within = p.4 })
          (le-ltb longest_label (a.n.end - a.n.start) c.if-size-gt-LONGEST_LABEL.false) (le-leb most_labels (a.c.bound + a.c.waiting) c.if-count-ge-MOST_LABELS.true) refl refl,
    )

pub returns-then-find-count : goal.returns-then-find-count
returns-then-find-count c =
    let a = c.args in
    let p = c.requires in
    let count = a.c.bound + a.c.waiting in (
      tt,
      λ k vs ms l. label_by a.s.now a.starts.now a.keys.now a.line.now vs ms a.c a.n k
          (record { fair = p.0; starts-long = p.1; keys_long = p.2; values_long = l; order = p.3; within = p.4 })
          (le-ltb longest_label (a.n.end - a.n.start) c.if-size-gt-LONGEST_LABEL.false) (lt-leb most_labels count c.if-count-ge-MOST_LABELS.false) c.find.ensures
          (lt-ltb c.find.result count c.if-find-count.true),
    )

pub returns : goal.returns
returns c =
    let h = c.hold in
    let a = c.args in
    let p = c.requires in
    let size = a.n.end - a.n.start in
    let count = a.c.bound + a.c.waiting in (
      record { low = p.0.low; few = omega (arith, c.if-count-ge-MOST_LABELS.false) },
      λ k vs ms l. (
        label_by a.s.now a.starts.now a.keys.now a.line.now vs ms a.c a.n k
            (record { fair = p.0; starts-long = p.1; keys_long = p.2; values_long = l; order = p.3; within = p.4 })
            (le-ltb longest_label size c.if-size-gt-LONGEST_LABEL.false) (lt-leb most_labels count c.if-count-ge-MOST_LABELS.false) c.find.ensures
            (le-ltb c.find.result count c.if-find-count.false),
        label-held a.s.now a.starts.now a.keys.now a.line.now vs ms a.c a.n k
            (record { fair = p.0; starts-long = p.1; keys_long = p.2; values_long = l; order = p.3; within = p.4 })
            h.new.starts h.new.keys (h.ensures a.s.now (p.6 a.n.start size (omega (arith, p.3, p.4)))),
      ),
    )
