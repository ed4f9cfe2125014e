use Rattle.std.proofs.Common.{◌≡◌, ◌++◌, Err, sym, ap, subst, ◌∙◌}
use Rattle.cv_feed.specs.Streams.{Takes}
use Rattle.cv_frame.specs.State.{State}
use Rattle.cv_frame.specs.Wire.{IsFramed}
use Rattle.cv_frame.specs.declared.fault.FrameFault.TheVariants.{OutOfMemory}
use Rattle.cv_frame.proofs.Readable.{silent_framed, takes_framed}
use Rattle.cv_frame.proofs.feed.Feed.push.Goals as goal
use Rattle.cv_frame.proofs.feed.Feed.push.Goals.{in-Ok, in-Err-Fault, in-Err-OutOfMemory}

pub returns-clause-ok : goal.returns-clause-ok
returns-clause-ok c =
    elim c.match-push.branch [
      | in-Ok w ↦
          let h = rw w.in-Ok.is at c.push.ensures.ok in
          rw w.result-is (ap (λ (s : State). s.fault) (sym c.self.view_is) ∙ h.0, h.1, silent_framed _ h.2, h.3)
      | in-Err-Fault w ↦ rw w.result-is tt
      | in-Err-OutOfMemory w ↦ rw w.result-is tt
    ]

pub returns-clause-told : goal.returns-clause-told
returns-clause-told c f fresh is other =
    let before = ap (λ (s : State). s.fault) c.self.view_is ∙ fresh in
    elim c.match-push.branch [
      | in-Ok w ↦ absurd (let e = w.result-is in cc)
      | in-Err-Fault w ↦
          let e = w.result-is in
          let same : f ≡ w.fault_at.result = cc in
          let told = c.push.ensures.told w.in-Err-Fault.flaw before (w.in-Err-Fault.is ∙ ap Err w.in-Err-Fault.field-0-is) in
          (w.in-Err-Fault.flaw, told.0, told.1, same ∙ w.fault_at.ensures)
      | in-Err-OutOfMemory w ↦ absurd (let e = w.result-is in let same : f ≡ OutOfMemory = cc in other same)
    ]

pub returns-clause-frames : goal.returns-clause-frames
returns-clause-frames c fresh enough =
    let before = ap (λ (s : State). s.fault) c.self.view_is ∙ fresh in
    let read = c.push.ensures.messages before (λ e. elim c.match-push.branch [
      | in-Ok w ↦ let is = w.in-Ok.is in cc
      | in-Err-Fault w ↦ let is = w.in-Err-Fault.is ∙ ap Err w.in-Err-Fault.field-0-is in cc
      | in-Err-OutOfMemory w ↦ enough w.result-is
    ]) in
    subst (λ (s : State). Takes IsFramed s.waiting c.push.new.self.waiting.items (s.rest ++ c.args.piece.now) c.push.new.self.rest.items) c.self.view_is (takes_framed _ _ _ _ read)
