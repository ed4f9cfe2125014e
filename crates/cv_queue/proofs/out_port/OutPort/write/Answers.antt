use Rattle.std.proofs.Common.{◌≡◌, ◌^◌, ◌<◌, ◌≤◌, ◌++◌, ◌∷◌, [], length, sym, subst, arith}
use Rattle.std.proofs.lemmas.Grind.{common_steps}
use Rattle.cv_queue.specs.Ports.{OutView, space}
use Rattle.cv_queue.proofs.Kept.{keeps_write}
use Rattle.cv_queue.proofs.out_port.OutPort.write.Goals as goal

pub invariant_of-self-2 : goal.invariant_of-self-2
invariant_of-self-2 c =
    let o : OutView = record { held = c.self.inside.held.items; write = c.self.inside.write; cap = c.self.inside.cap; readers = c.self.inside.readers.items } in
    let e : c.push.new.self.items ≡ o.held ++ c.args.token ∷ [] = c.in-Ok.ensures.items in
    let some : 0 < length o.readers = grind (arith, common_steps, c.self.inside.readers.ok.0) in
    let room : 1 ≤ space o = subst (λ (v : OutView). 1 ≤ space v) (sym c.self.view_is) c.requires.room in
    let small : o.write < 2 ^ 62 = subst (λ (v : OutView). v.write < 2 ^ 62) (sym c.self.view_is) c.requires.number in
    (rw e (keeps_write o c.args.token some room small c.self.invariant.0), omega arith, c.self.invariant.2)
