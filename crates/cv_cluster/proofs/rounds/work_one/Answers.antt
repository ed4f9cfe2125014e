use Rattle.cv_cluster.proofs.rounds.work_one.Goals as goal

pub returns : goal.returns
returns g c = record {
  acts = c.work.ensures.works.0;
  round = c.work.ensures.works.1;
  within = c.work.ensures.fired;
  few = c.work.ensures.few;
}
