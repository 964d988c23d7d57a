-- What `assemble` answers is what it answered before K4, with its number, 15 and 16 read as 5, and without where it points.
use Prim.Native.Nat.{ℕ}
use mathlib.Core.List.{List}
use mathlib.Core.Path.{◌≡◌, sym, ap, ◌∙◌}
use lib.ListN.{length}
use Rattle.sources.specs.Placing.{start}
use Rattle.sources.specs.Image.{Accepted}
use Rattle.sources.specs.BeforeK4.{before}
use Rattle.sources.proofs.Top as sources
use Rattle.assembler.specs.Promise.{told, Replies}
use Rattle.assembler.specs.Promise as Now
use Rattle.assembler.specs.BeforeK4.{ToldBefore, forgotten, acceptance_before, refusal_before, AcceptedBefore, RepliesBefore, accepts, refuses}
use Rattle.assembler.specs.declared.Reply.{Reply}

module _ {M N : ℕ} {source memory marks : List ℕ} where
  accepted-before : Accepted M N source memory marks → AcceptedBefore M N source memory marks
  accepted-before a =
      record {
        reading = a.reading;
        loans = a.passing.loans;
        text = a.passing.text;
        lines = (sources.passed-before M 1 (start M) a.reading).0 a.passing.lines;
        labels = a.passing.labels;
        image = a.image;
      }

  accepted-now : AcceptedBefore M N source memory marks → Accepted M N source memory marks
  accepted-now a =
      record {
        reading = a.reading;
        passing =
            record {
              loans = a.loans;
              text = a.text;
              lines = (sources.passed-before M 1 (start M) a.reading).1 a.lines;
              labels = a.labels;
            };
        image = a.image;
      }

module _ {source memory map : List ℕ} {r : Reply} {memory' map' : List ℕ} where
  pub as_it_was : Replies source memory map r memory' map' → RepliesBefore source memory map (forgotten (told r)) memory' map'
  as_it_was (Now.accepts a e) = accepts (accepted-before a) (ap forgotten e)
  as_it_was (Now.refuses why c i f e g h) = refuses (before why) (sources.as_before (sources.forget f)) (ap forgotten e) g h

  -- two answers of before coincide, so that this one is all that was answered
  pub only_as_it_was : {t : ToldBefore} {m k : List ℕ} → RepliesBefore source memory map t m k → Replies source memory map r memory' map'
      → (t ≡ forgotten (told r)) × (m ≡ memory') × (k ≡ map')
  only_as_it_was (accepts a e) (Now.accepts b f) =
      let u = sources.one_image_only (length memory) (length map) source (accepted-now a) b in
      (e ∙ ap acceptance_before u.1 ∙ sym (ap forgotten f), u.0, u.1)
  only_as_it_was (accepts a e) (Now.refuses why c i f p g h) = absurd (sources.never_both (length memory) (length map) source (accepted-now a) (sources.forget f))
  only_as_it_was (refuses old f e g h) (Now.accepts b p) = absurd (sources.never_both (length memory) (length map) source b (sources.before_back f).1)
  only_as_it_was (refuses old f e g h) (Now.refuses why c i f' e' g' h') =
      let x = sources.before_back f in
      let u = sources.one-refusal (length memory) (length map) source x.1 (sources.forget f') in
      (e ∙ ap refusal_before (sym x.2 ∙ ap before u) ∙ sym (ap forgotten e'), g ∙ sym g', h ∙ sym h')
