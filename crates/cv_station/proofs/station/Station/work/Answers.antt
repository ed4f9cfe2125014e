use Rattle.std.proofs.Common.{Bool, List, is_err, sym, subst}
use Rattle.cv_station.specs.Acts.{Act, Round}
use Rattle.cv_station.proofs.Rounds.{round_fired, round_of, round_steps}
use Rattle.cv_station.proofs.station.Station.work.Goals as goal

pub returns : goal.returns
returns g c =
    let failed = is_err c.go_on.result in
    record {
      works = subst (λ (b : Bool). (acts : List Act) × Round c.args.self.now acts (record c.go_on.new.self { failed = b })) (sym c.is_err-self.ensures.value) (round_of failed c.args.self.now c.go_on.new.self c.go_on.ensures);
      fired = round_fired failed c.args.self.now c.go_on.new.self c.go_on.ensures;
      steps = round_steps failed c.args.self.now c.go_on.new.self c.go_on.ensures;
      few = c.go_on.ensures.few;
    }
