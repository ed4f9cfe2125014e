use Rattle.std.proofs.Common.{◌≡◌, false, ap, ◌∙◌, subst}
use Rattle.cv_cluster.specs.Cluster.{ClusterView, Stops}
use Rattle.cv_spread.proofs.Running.{is_spread_run}
use Rattle.cv_spread.proofs.spread.run_spread.Goals as goal

pub returns : goal.returns
returns g c =
    let opened = c.in_ok-cluster.ensures in
    let stops = subst (λ (was : ClusterView). Stops was c.args.most c.in_ok-stop.stop c.run.new.self) opened c.in_ok-stop.ensures.stops in
    let fine : c.run.new.self.failed ≡ false = c.in_ok-stop.ensures.fine ∙ ap (λ (was : ClusterView). was.failed) opened in
    is_spread_run c.args.net c.args.nodes c.args.items.items c.args.most c.in_ok-stop.stop c.run.new.self c.in_ok-merged.merged c.requires.wired stops fine c.in_ok-merged.ensures
