use Rattle.std.proofs.Common.{◌≡◌, Err, sym, ap, ◌∙◌}
use Rattle.cv_feed.specs.declared.format.Refusal.TheVariants as R
use Rattle.cv_http.specs.declared.fault.HttpFault.TheVariants.{OutOfMemory}
use Rattle.cv_http.proofs.feed.Feed.push.Goals as goal
use Rattle.cv_http.proofs.feed.Feed.push.Goals.{in-Ok, in-Err-Fault, in-Err-OutOfMemory}

pub returns-clause-told : goal.returns-clause-told
returns-clause-told c f fresh is other =
    let before = ap (λ s. s.fault) c.self.view_is ∙ fresh in
    elim c.match-push.branch [
      | in-Ok w ↦ absurd (let e = w.result-is in cc)
      | in-Err-Fault w ↦
          let e = w.result-is in
          let same : w.in-Err-Fault.fault ≡ f = cc in
          c.push.ensures.told f before
          (w.in-Err-Fault.is ∙ ap Err w.in-Err-Fault.field-0-is ∙ ap (λ g. Err (R.Fault g)) same)
      | in-Err-OutOfMemory w ↦ absurd (let e = w.result-is in let same : f ≡ OutOfMemory = cc in other same)
    ]

pub returns-clause-unchanged : goal.returns-clause-unchanged
returns-clause-unchanged c refused =
    let kept = c.push.ensures.unchanged (λ before.
    let is = refused (ap (λ s. s.fault) (sym c.self.view_is) ∙ before) in
    elim c.match-push.branch [
      | in-Ok w ↦ absurd (let e = w.result-is in cc)
      | in-Err-Fault w ↦
          let e = w.result-is in
          let same : w.in-Err-Fault.fault ≡ OutOfMemory = cc in
          absurd (c.push.ensures.told OutOfMemory before
          (w.in-Err-Fault.is ∙ ap Err w.in-Err-Fault.field-0-is ∙ ap (λ g. Err (R.Fault g)) same)).1
      | in-Err-OutOfMemory w ↦ w.in-Err-OutOfMemory.is ∙ ap Err w.in-Err-OutOfMemory.field-0-is
    ]) in
    (λ i. record { waiting = kept.0 i; rest = kept.1 i; fault = kept.2 i }) ∙ c.self.view_is
