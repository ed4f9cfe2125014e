use Rattle.std.proofs.Common.{◌≡◌, List, None, Option, Some, ap, inr, slice_get, sym, ◌∙◌, refl, arith}
use Rattle.std.proofs.lemmas.Option.{slice_get-get_or}
use Rattle.std.specs.Option.{option_map, unwrap_or}
use Rattle.cv_protocol.specs.declared.state.Inlet.{Inlet}
use Rattle.cv_protocol.specs.Actors.{LiveState}
use Rattle.cv_protocol.specs.Rows.{inlet_at}
use Rattle.cv_actor.proofs.Found.{put_back}
use Rattle.cv_actor.proofs.live.Live.inp_mut.Goals as goal

pub returns-in-None : goal.returns-in-None
returns-in-None c =
    let there : slice_get c.self.inside.ins.items c.from.result ≡ Some c.in_ok-inlet.field-0.now = slice_get-get_or c.self.inside.ins.items c.from.result c.in_ok-inlet.field-0.now (omega (arith, c.in_ok-inlet.ensures.variant.0 refl, c.self.inside.ins.ok.0)) ∙ ap Some (sym c.in_ok-inlet.ensures.value) in
    let void : slice_get c.self.inside.ins.items c.args.port ≡ Some None = ap (λ n. slice_get c.self.inside.ins.items n) (sym c.from.ensures) ∙ there ∙ ap Some c.in-None.is in
    let none : inlet_at c.args.self.now c.args.port ≡ None = ap (λ (l : LiveState). inlet_at l c.args.port) (sym c.self.view_is) ∙ ap (λ (o : Option (Option Inlet)). unwrap_or o None) void in
    let same = ap (λ (ins : List (Option Inlet)). record { actor = record { id = c.self.inside.id; spec = c.self.inside.spec; slots = c.self.inside.slots; ins = ins; outs = c.self.inside.outs.items }; due = c.self.inside.due; attempt = c.self.inside.attempt }) (put_back c.self.inside.ins.items c.from.result c.in_ok-inlet.field-0.now there) in
    (ap inr (same ∙ c.self.view_is), record { writes_back = tt; value = sym (ap (option_map (λ i. i.port)) none) })
