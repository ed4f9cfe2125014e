-- Ports one after another, as they are made.
use Rattle.std.proofs.Common.{◌≡◌, ℕ, zero, suc, ◌+◌, ◌-◌, ◌<◌, List, [], ◌∷◌, length, refl, ap, add-one, arith}
use Rattle.cv_token.specs.declared.identifiers.AppId.{AppId}
use Rattle.cv_kinds.specs.declared.network.Connection.{Connection}
use Rattle.cv_queue.specs.Ports.{new_out}
use Rattle.cv_protocol.specs.Travel.{inlet_of, inlets_of, outs_of, queue_length, readers_of}

-- as many as were asked for
pub length_inlets : (app : AppId) (connections : List Connection) (actor port count : ℕ) → length (inlets_of app connections actor port count) ≡ count
length_inlets app connections actor port zero = refl
length_inlets app connections actor port (suc count) = ap suc (length_inlets app connections actor (suc port) count)

pub length_outs : (app : AppId) (connections : List Connection) (actor port count : ℕ) → length (outs_of app connections actor port count) ≡ count
length_outs app connections actor port zero = refl
length_outs app connections actor port (suc count) = ap suc (length_outs app connections actor (suc port) count)

-- those from number `port` on are that one and those after it
pub inlets_next : (app : AppId) (connections : List Connection) (actor port count : ℕ) → port < count → inlets_of app connections actor port (count - port) ≡ inlet_of app 0 connections actor port ∷ inlets_of app connections actor (port + 1) (count - (port + 1))
inlets_next app connections actor port count within =
    let left : count - port ≡ suc (count - (port + 1)) = omega arith in
    rw (left, add-one) refl

pub outs_next : (app : AppId) (connections : List Connection) (actor port count : ℕ) → port < count → outs_of app connections actor port (count - port) ≡ new_out queue_length (readers_of app 0 connections actor port) ∷ outs_of app connections actor (port + 1) (count - (port + 1))
outs_next app connections actor port count within =
    let left : count - port ≡ suc (count - (port + 1)) = omega arith in
    rw (left, add-one) refl
