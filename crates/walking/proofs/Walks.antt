-- One turn of the walk's loop, and what holds at each turn.
use Prim.Native.Nat.{ℕ, ◌+◌, ◌-◌, ◌≤◌, ◌<◌}
use mathlib.Core.Bool.{Bool, true, false, cond}
use mathlib.Core.List.{List, [], ◌++◌, map}
use mathlib.Core.Path.{◌≡◌, refl, sym, ap, ap₂, subst, ◌∙◌}
use native.Mathlib.Omega.{arith}
use lib.ListN.{length, take, drop, replicate, length-drop, length-take}
use lib.Seq.{sets}
use Rattle.codes.specs.Refusals.{number as code}
use Rattle.codes.specs.declared.refusals.Refusal.{Refusal as Why}
use Rattle.codes.specs.Limits.{most_cells, longest_source, most_labels}
use Rattle.tokens.specs.Reading.{line_length}
use Rattle.tokens.proofs.Top.{line-within}
use Rattle.statements.specs.Reading.{line_read}
use Rattle.statements.specs.declared.LineRead.{LineRead}
use Rattle.std.proofs.Common.{Result, Ok, Err}
use Rattle.statements.specs.declared.Statement.{Statement}
use Rattle.statements.specs.declared.Failure.{Failure}
use Rattle.statements.proofs.Labelling.{never}
use Rattle.sources.specs.Placing.{Place, does_read, start, labelled, Judged, after}
use Rattle.sources.specs.Uses.{Use, uses_read}
use Rattle.sources.specs.Order.{Refusal, ◌on◌}
use Rattle.sources.specs.Inner.Assembling.{Verdict, passes, refused, first_of, and_then, read_line, ends_it, label_verdict, own_verdict, label_out, reserves_too_far}
use Rattle.sources.specs.Inner.Assembling.{past_end, act_verdict, line_verdict, walk_lines, raw_read, Work, start_work, worked, work_after}
use Rattle.sources.specs.declared.Act.{Act}
use Rattle.sources.proofs.Loop.{line_at, lines_from, goes_on, lines-over, lines_on}
use Rattle.labels.specs.Inner.Labels.{listed, words, zipped, Part, key_cells}
use Rattle.labels.proofs.Laws.{window_part}
use Rattle.uses.specs.Inner.Held.{uses_held, most_uses}
use Rattle.placing.specs.Inner.State.{place_in, Fair, FairDid, Tells}
use Rattle.placing.specs.declared.Counters.{Counters}
use Rattle.placing.proofs.TestLaws.{not-past}
use Rattle.walking.specs.Inner.Walking.{work_in}

-- ---- the line

-- the part that is read is the line
pub part_line : (s : List ℕ) (from : ℕ) {end : ℕ} → end ≡ from + line_length (drop from s) → take (end - from) (drop from s) ≡ line_at s from
part_line s from {end} e = let d : end - from ≡ line_length (drop from s) = omega arith in ap (λ (n : ℕ). take n (drop from s)) d

pub end-within : (s : List ℕ) (from : ℕ) {end : ℕ} → end ≡ from + line_length (drop from s) → from < length s → end ≤ length s
end-within s from e h = omega (arith, line-within (drop from s), length-drop from s)

pub line-long : (s : List ℕ) (from end : ℕ) → from ≤ end → end ≤ length s → from + length (take (end - from) (drop from s)) ≡ end
line-long s from end h k = omega (arith, length-take (end - from) (drop from s), length-drop from s)

-- it is a part of the source
pub line_part : (s : List ℕ) (from end : ℕ) → Part s from (take (end - from) (drop from s))
line_part s from end a n h = window_part s from end a n (omega (arith, h, length-take (end - from) (drop from s)))

-- the loop goes on further on
pub further : (st : Result Statement Failure) (from total next : ℕ) → from < next → from < total → from < cond (ends_it st) total next
further st from total next h k = go (ends_it st)
  where
    go : (b : Bool) → from < cond b total next
    go true = k
    go false = h

-- behind END there is no turn
uses-below : (st : Result Statement Failure) (total next : ℕ) {uses to : ℕ} → to ≡ cond (ends_it st) total next → uses ≤ next → to < total → uses ≤ to
uses-below st total next {uses} {to} e h = go (ends_it st) e
  where
    go : (b : Bool) → to ≡ cond b total next → to < total → uses ≤ to
    go true q l = absurd (omega (arith, q, l))
    go false q l = omega (arith, q, h)

-- ---- one turn

of_parts : {p q : Place} {m n : List ℕ} {us vs : List Use} → p ≡ q → m ≡ n → us ≡ vs
    → ◌≡◌ {A = Work} (record { place = p; cells = m; uses = us }) (record { place = q; cells = n; uses = vs })
of_parts {q = q} {m = m} {n = n} {us = us} e f g =
    ap (λ (x : Place). record { place = x; cells = m; uses = us }) e
    ∙ ap₂ (λ (x : List ℕ) (y : List Use). record { place = q; cells = x; uses = y }) f g

-- the work after a line, by its parts
pub worked_on : (k : ℕ) (w : Work) (line : List ℕ) {read : Result Statement Failure} {p : Place} {m : List ℕ} {us : List Use} → (line_read line).statement ≡ read
    → p ≡ after w.place (read_line line)
    → m ≡ sets w.cells w.place.at (raw_read line read)
    → us ≡ w.uses ++ uses_read k line w.place.at read
    → ◌≡◌ {A = Work} (record { place = p; cells = m; uses = us }) (worked k w (read_line line))
unfolding worked
worked_on k w line e p m u =
    of_parts p (m ∙ ap (λ (r : Result Statement Failure). sets w.cells w.place.at (raw_read line r)) (sym e))
    (u ∙ ap (λ (r : Result Statement Failure). w.uses ++ uses_read k line w.place.at r) (sym e))

-- what is left of the walk: its verdict, its work and its number of lines
pub record Same (M : ℕ) (k : ℕ) (w : Work) (ls : List (List ℕ)) (k' : ℕ) (w' : Work) (ls' : List (List ℕ)) : Type 0 where
  pub verdict : walk_lines M k w.place ls ≡ walk_lines M k' w'.place ls'
  pub work : work_after k w (map read_line ls) ≡ work_after k' w' (map read_line ls')
  pub lines : k + length ls ≡ k' + length ls'

module _ {M k k' : ℕ} {w w' : Work} {ls ls' : List (List ℕ)} (h : Same M k w ls k' w' ls') where
  pub same_then : {k'' : ℕ} {w'' : Work} {ls'' : List (List ℕ)} → Same M k' w' ls' k'' w'' ls'' → Same M k w ls k'' w'' ls''
  same_then g = record { verdict = h.verdict ∙ g.verdict; work = h.work ∙ g.work; lines = h.lines ∙ g.lines }

same-work : (M k : ℕ) {w w' : Work} (ls : List (List ℕ)) → w ≡ w' → Same M k w ls k w' ls
same-work M k ls e =
    record { verdict = ap (λ (x : Work). walk_lines M k x.place ls) e; work = ap (λ (x : Work). work_after k x (map read_line ls)) e; lines = refl }

module _ (M : ℕ) (s : List ℕ) (from k : ℕ) (w : Work) where
  -- no line is left
  pub walk-over : length s ≤ from
      → (walk_lines M k w.place (lines_from s from) ≡ passes) × (work_after k w (map read_line (lines_from s from)) ≡ w) × (length (lines_from s from) ≡ 0)
  unfolding walk_lines work_after
  walk-over h =
      let o = lines-over s from h in
      (ap (walk_lines M k w.place) o, ap (λ (ls : List (List ℕ)). work_after k w (map read_line ls)) o, ap length o)

  -- the line fails
  pub walk-stops : (line : List ℕ) {f : ℕ} → from < length s → line ≡ line_at s from → line_verdict M k w.place (read_line line) ≡ refused (f on k)
      → walk_lines M k w.place (lines_from s from) ≡ refused (f on k)
  unfolding walk_lines
  walk-stops line h e g =
      ap (walk_lines M k w.place) (lines_on s from h)
      ∙ ap (λ (v : Verdict). and_then v (walk_lines M (k + 1) (after w.place (read_line (line_at s from))) (lines_from s (goes_on s from))))
      (ap (λ (l : List ℕ). line_verdict M k w.place (read_line l)) (sym e) ∙ g)

  -- the line passes, and the loop goes on
  pub walk-goes : (line : List ℕ) (w' : Work) {st : Result Statement Failure} {end next : ℕ} → from < length s → line ≡ line_at s from
      → line_verdict M k w.place (read_line line) ≡ passes
      → w' ≡ worked k w (read_line line)
      → (line_read line).statement ≡ st
      → end ≡ from + line_length (drop from s)
      → next ≡ cond (ends_it st) (length s) (end + 1)
      → Same M k w (lines_from s from) (k + 1) w' (lines_from s next)
  unfolding walk_lines work_after worked
  walk-goes line w' {st} {end} {next} h e g a r f n =
      let o : goes_on s from ≡ next =
      ap (λ (l : List ℕ). cond (ends_it (line_read l).statement) (length s) (from + line_length (drop from s) + 1)) (sym e)
      ∙ ap (λ (x : Result Statement Failure). cond (ends_it x) (length s) (from + line_length (drop from s) + 1)) r
      ∙ ap (λ (m : ℕ). cond (ends_it st) (length s) (m + 1)) (sym f)
      ∙ sym n in
      let d : worked k w (read_line (line_at s from)) ≡ w' = ap (λ (l : List ℕ). worked k w (read_line l)) (sym e) ∙ sym a in
      let v : line_verdict M k w.place (read_line (line_at s from)) ≡ passes =
      ap (λ (l : List ℕ). line_verdict M k w.place (read_line l)) (sym e) ∙ g in
      record {
        verdict =
            ap (walk_lines M k w.place) (lines_on s from h)
            ∙ ap (λ (x : Verdict). and_then x (walk_lines M (k + 1) (after w.place (read_line (line_at s from))) (lines_from s (goes_on s from)))) v
            ∙ ap₂ (λ (z : Work) (m : ℕ). walk_lines M (k + 1) z.place (lines_from s m)) d o;
        work =
            ap (λ (ls : List (List ℕ)). work_after k w (map read_line ls)) (lines_on s from h)
            ∙ ap₂ (λ (z : Work) (m : ℕ). work_after (k + 1) z (map read_line (lines_from s m))) d o;
        lines =
            let q = ap length (lines_on s from h) in
            let t = ap (λ (m : ℕ). length (lines_from s m)) o in
            omega (arith, q, t);
      }

-- ---- what holds at each turn

pub record Left (M : ℕ) (s starts keys values marks cells row aways : List ℕ) (long few far : ℕ) (c : Counters) (from number uses : ℕ) : Type 0 where
  pub fair : Fair c
  pub starts-long : length starts ≡ most_labels
  pub keys_long : length keys ≡ key_cells
  pub values_long : length values ≡ most_labels
  pub marks-long : length marks ≡ M
  pub cells-long : length cells ≡ long
  pub row-long : length row ≡ few
  pub aways_long : length aways ≡ far
  pub few-lines : number ≤ from
  pub few-uses : from < length s → uses ≤ from
  pub uses_fit : uses < most_uses
  pub left : Same M 1 (start_work M) (lines_from s 0) (number + 1) (work_in s starts keys values marks cells row aways c uses) (lines_from s from)

-- before the first line
start-work : (s starts keys values marks cells row aways : List ℕ) → marks ≡ replicate (length marks) 0 → cells ≡ replicate (length marks) 0
    → start_work (length marks)
    ≡ work_in s starts keys values marks cells row aways (record { at = record { 0 = 0 }; bound = 0; waiting = 0 }) 0
unfolding start_work start words listed zipped uses_held
start-work s starts keys values marks cells row aways e f =
    of_parts (ap (λ (m : List ℕ). record { at = 0; bound = []; waiting = []; marks = m }) (sym e)) (sym f) refl

pub left_at_start : (s starts keys values marks cells row aways : List ℕ) → length starts ≡ most_labels → length keys ≡ key_cells → length values ≡ most_labels
    → marks ≡ replicate (length marks) 0
    → cells ≡ replicate (length marks) 0
    → Left (length marks) s starts keys values marks cells row aways (length cells) (length row) (length aways)
    (record { at = record { 0 = 0 }; bound = 0; waiting = 0 }) 0 0 0
left_at_start s starts keys values marks cells row aways a b d e f =
    record {
      fair = record { low = omega arith; few = omega arith };
      starts-long = a;
      keys_long = b;
      values_long = d;
      marks-long = refl;
      cells-long = refl;
      row-long = refl;
      aways_long = refl;
      few-lines = omega arith;
      few-uses = λ h. omega arith;
      uses_fit = omega arith;
      left = same-work (length marks) 1 (lines_from s 0) (start-work s starts keys values marks cells row aways e f);
    }

-- ---- a line that passes has room for its cells

then-passes : (u v : Verdict) → and_then u v ≡ passes → v ≡ passes
then-passes passes v e = e
then-passes (refused r) v e = never (cc)

not-failing : (b : Bool) (r : Refusal) (v : Verdict) → cond b (refused r) v ≡ passes → (b ≡ false) × (v ≡ passes)
not-failing true r v e = never (cc)
not-failing false r v e = (refl, e)

act-room : (M k : ℕ) (p : Place) (a : Act) → act_verdict M k p a ≡ passes → past_end M p.at a ≡ false
unfolding act_verdict first_of
act-room M k p a e =
    let r₁ = not-failing (label_out p a) (6 on k) _ e in
    let r₂ = not-failing (reserves_too_far a.moves p.at) (6 on k) _ r₁.1 in
    (not-failing (past_end M p.at a) (11 on k) _ r₂.1).0

pub room-there : (M k : ℕ) (p : Place) (x : Judged) → line_verdict M k p x ≡ passes → 0 < (does_read x.read.statement).claims
    → p.at + (does_read x.read.statement).claims ≤ M
unfolding line_verdict
room-there M k p x e =
    let q = labelled p x.bytes x.read.label in
    let a = does_read x.read.statement in
    let f = then-passes (own_verdict k x.read.statement) (act_verdict M k q a) (then-passes (label_verdict k p x.bytes x.read.label) _ e) in
    not-past M p.at a.claims (act-room M k q a f)

-- ---- a turn of the code's loop: `place_line`, `keep_line`, `next_line` on what `Left` says

module _ (M : ℕ) (s starts keys values marks cells row aways : List ℕ) (long few far : ℕ) (c : Counters) (from number uses : ℕ)
    (inv : Left M s starts keys values marks cells row aways long few far c from number uses) where
  abbrev now : Work
  now = work_in s starts keys values marks cells row aways c uses

  -- no line is left
  pub turns_over : length s ≤ from
      → (walk_lines M 1 (start M) (lines_from s 0) ≡ passes)
      × (now ≡ work_after 1 (start_work M) (map read_line (lines_from s 0)))
      × (number ≡ length (lines_from s 0))
  unfolding start_work
  turns_over h =
      let o = walk-over M s from (number + 1) now h in
      let n = inv.left.lines in
      (inv.left.verdict ∙ o.0, sym (inv.left.work ∙ o.1), omega (arith, n, o.2))

  module _ (h : from < length s) {end : ℕ} (e : end ≡ from + line_length (drop from s)) where
    abbrev line : List ℕ
    line = take (end - from) (drop from s)

    -- what `place_line` tells of the line
    abbrev Told : (Counters → Place) → Result Counters Why → Type 0
    Told of r =
        Tells (number + 1) (line_verdict (length marks) (number + 1) now.place (read_line line)) (after now.place (read_line line)) of r

    pub line-fits : length s ≤ longest_source → from + length line ≤ longest_source
    line-fits k = let g = end-within s from e h in omega (arith, line-long s from end (omega (arith, e)) g, g, k)

    -- the line fails
    pub turn-stops : (of : Counters → Place) {r : Result Counters Why} {f : Why} → r ≡ Err f → Told of r → walk_lines M 1 (start M) (lines_from s 0) ≡ refused (code f on (number + 1))
    unfolding start_work
    turn-stops of {f = f} q t =
        inv.left.verdict
        ∙ walk-stops M s from (number + 1) now line h (part_line s from e)
        (subst (λ (m : ℕ). line_verdict m (number + 1) now.place (read_line line) ≡ refused (code f on (number + 1))) inv.marks-long (subst (Told of) q t))

    -- the line passes
    module _ (of : Counters → Place) {r : Result Counters Why} {d : Counters} (q : r ≡ Ok d) (t : Told of r) where
      line-passes : line_verdict M (number + 1) now.place (read_line line) ≡ passes
      line-passes = subst (λ (m : ℕ). line_verdict m (number + 1) now.place (read_line line) ≡ passes) inv.marks-long (subst (Told of) q t).0

      -- its cells are there
      pub turn-room : {read : LineRead} → read ≡ line_read line → M ≤ most_cells → 0 < (does_read read.statement).claims
          → c.at.0 + (does_read read.statement).claims ≤ most_cells
      turn-room a m =
          subst (λ (x : LineRead). 0 < (does_read x.statement).claims → c.at.0 + (does_read x.statement).claims ≤ most_cells) (sym a)
          (λ z. let g = room-there M (number + 1) now.place (read_line line) line-passes z in omega (arith, g, m))

      -- and the loop goes on
      pub turn-goes : (starts' keys' values' marks' cells' row' aways' : List ℕ) {uses' next : ℕ} {read : LineRead} → read ≡ line_read line
          → ((x : Counters) → of x ≡ place_in s starts' keys' values' marks' x)
          → FairDid r
          → length starts' ≡ length starts
          → length keys' ≡ length keys
          → length values' ≡ length values
          → length marks' ≡ length marks
          → length cells' ≡ length cells
          → length row' ≡ length row
          → length aways' ≡ length aways
          → length s ≤ longest_source
          → cells' ≡ sets cells c.at.0 (raw_read line read.statement)
          → uses_held s row' aways' uses' ≡ uses_held s row aways uses ++ uses_read (number + 1) line c.at.0 read.statement
          → uses' ≤ uses + length line + 1
          → next ≡ cond (ends_it read.statement) (length s) (end + 1)
          → Left M s starts' keys' values' marks' cells' row' aways' long few far d next (number + 1) uses'
      turn-goes starts' keys' values' marks' cells' row' aways' {uses'} {next} {read} a is fair l₁ l₂ l₃ l₄ l₅ l₆ l₇ short m u n o =
          let g = end-within s from e h in
          let long-line = line-long s from end (omega (arith, e)) g in
          let f = further read.statement from (length s) (end + 1) (omega (arith, e)) h in
          let few-now = inv.few-uses h in
          let w' = work_in s starts' keys' values' marks' cells' row' aways' d uses' in
          let st : (line_read line).statement ≡ read.statement = ap (λ (x : LineRead). x.statement) (sym a) in
          let w : w' ≡ worked (number + 1) now (read_line line) =
          worked_on (number + 1) now line st (sym (is d) ∙ (subst (Told of) q t).1) m u in
          record {
            fair = subst FairDid q fair;
            starts-long = l₁ ∙ inv.starts-long;
            keys_long = l₂ ∙ inv.keys_long;
            values_long = l₃ ∙ inv.values_long;
            marks-long = l₄ ∙ inv.marks-long;
            cells-long = l₅ ∙ inv.cells-long;
            row-long = l₆ ∙ inv.row-long;
            aways_long = l₇ ∙ inv.aways_long;
            few-lines = omega (arith, f, o, inv.few-lines);
            few-uses = uses-below read.statement (length s) (end + 1) o (omega (arith, n, few-now, long-line));
            uses_fit = omega (arith, n, few-now, long-line, g, short);
            left = same_then inv.left (walk-goes M s from (number + 1) now line w' h (part_line s from e) line-passes w st e o);
          }
