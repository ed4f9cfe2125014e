use Rattle.std.proofs.Common.{◌≡◌, ℕ, sym, ap, ◌∙◌, [], ◌∷◌}
use Rattle.cv_protocol.specs.declared.event.Entry.{Entry}
use Rattle.cv_merge.specs.Lanes.{Lane}
use Rattle.cv_merge.proofs.Taking.{nothing_left, cut, lane_at, takes_at}
use Rattle.cv_merge.proofs.choosing.next_step.Goals as goal

pub returns-in_default : goal.returns-in_default
returns-in_default c = nothing_left c.args.sources.now (sym c.in_default.is ∙ c.least.ensures.least)

pub unreachable-requires : goal.unreachable-requires
unreachable-requires c =
    let x : ℕ × ℕ = (c.in-Some.place, c.in-Some._stamp) in
    let found = cut c.args.sources.now x (sym c.in-Some.is ∙ c.least.ensures.least) in
    let lane = lane_at c.args.sources.now x found c.index-sources-place.result in
    let empty : found.lane.entries ≡ [] = ap (λ (l : Lane). l.entries) (sym lane) ∙ c.in_default-take.ensures.entries in
    let has = found.has in
    cc

pub returns : goal.returns
returns c =
    let x : ℕ × ℕ = (c.in-Some.place, c.in-Some._stamp) in
    let found = cut c.args.sources.now x (sym c.in-Some.is ∙ c.least.ensures.least) in
    let lane = lane_at c.args.sources.now x found c.index-sources-place.result in
    let same = ap (λ (l : Lane). l.entries) (sym lane) ∙ c.in-Some-take.ensures.entries in
    let has = same ∙ ap (λ (e : Entry). e ∷ c.take.new.self.entries) (sym c.step_of.ensures.entry) in
    let node = c.step_of.ensures.node ∙ c.node-node.ensures ∙ ap (λ (l : Lane). l.node) lane in
    let kept = c.in-Some-take.ensures.node ∙ ap (λ (l : Lane). l.node) lane in
    takes_at c.args.sources.now x found c.step_of.result c.take.new.self c.requires has node kept
