-- Ports that stand as their trees tell.
use Rattle.std.proofs.Common.{◌≡◌, ℕ, ◌≤◌, List, [], ◌∷◌, length, map, take, get_or, Option, Some, None, refl, sym, ap, ap₂, subst, ◌∙◌, arith, SomeIff}
use Rattle.std.proofs.lemmas.List.{length-map, take_all}
use Rattle.cv_token.specs.declared.identifiers.ActorId.{ActorId}
use Rattle.cv_token.specs.declared.identifiers.ConnId.{ConnId}
use Rattle.cv_token.specs.declared.token.Token.{Token}
use Rattle.cv_token.specs.declared.token.Token.TheVariants as tree
use Rattle.cv_token.specs.Spells.{Spells}
use Rattle.cv_queue.specs.declared.reader.Subscription.{Subscription}
use Rattle.cv_queue.specs.Ports.{InView, OutView, IsInPort, IsOutPort, in_at, out_at, reader_from}
use Rattle.cv_protocol.specs.Travel.{queue_length}
use Rattle.cv_protocol.specs.declared.state.Inlet.{Inlet}
use Rattle.cv_frame.specs.Trees.{number, actor_tree, conn_tree, inlet_tree, out_tree, reader_tree, subscription_tree, most_readers}
use Rattle.cv_frame.specs.Values.{AreHeld, AreReaders, IsActor, IsConn, IsCount, IsInlet, IsOut}
use Rattle.cv_frame.specs.laws.Ones.{same_readers}
use Rattle.cv_frame.specs.laws.Shapes.{same_list, same_number}

pub inlet_stands : (i : Inlet) (taken : ℕ) (held : List Token) → IsInlet i → taken ≡ i.port.taken → held ≡ i.port.held → IsInPort (in_at queue_length taken held)
inlet_stands i taken held k e f = subst IsInPort (k.stands ∙ ap₂ (in_at queue_length) (sym e) (sym f)) k.positions

-- an inlet of these parts is one that travels, with their tree
pub inlet_made : (t : Token) (conn : ConnId) (producer : ActorId) (taken : ℕ) (held : List Token) (port : InView) → IsConn conn → IsActor producer → IsCount taken → AreHeld held → IsInPort (in_at queue_length taken held) → port ≡ in_at queue_length taken held
    → t ≡ tree.List (conn_tree conn ∷ actor_tree producer ∷ number taken ∷ tree.List held ∷ [])
    → IsInlet (record { conn = conn; producer = producer; port = port }) × (t ≡ inlet_tree (Some (record { conn = conn; producer = producer; port = port })))
inlet_made t conn producer taken held port c p n h stands e is =
    subst (λ (x : InView). IsInlet (record { conn = conn; producer = producer; port = x }) × (t ≡ inlet_tree (Some (record { conn = conn; producer = producer; port = x })))) (sym e)
    (record { conn = c; producer = p; taken = n; stands = refl; positions = stands; held = h }, is)

-- an outport that travels, of the number that was written, what is held and its readers
pub out_stands : (o : OutView) (write : ℕ) (held : List Token) (readers : List Subscription) (k : IsOut o) → write ≡ o.write → held ≡ o.held → readers ≡ k.readers → IsOutPort (out_at queue_length write held readers)
out_stands o write held readers k e f g = subst IsOutPort (k.stands ∙ (λ i. out_at queue_length (sym e i) (sym f i) (sym g i))) k.positions

told_from : (readers : List Subscription) → map reader_tree (map (λ (s : Subscription). reader_from s.acked s) readers) ≡ map subscription_tree readers
told_from [] = refl
told_from (r ∷ readers) = ap (λ (ts : List Token). subscription_tree r ∷ ts) (told_from readers)

told_again : (readers : List Subscription) → length readers ≤ most_readers → map reader_tree (take most_readers (map (λ (s : Subscription). reader_from s.acked s) readers)) ≡ map subscription_tree readers
told_again readers few =
    ap (map reader_tree) (take_all most_readers (map (λ (s : Subscription). reader_from s.acked s) readers) (omega (arith, length-map readers (λ (s : Subscription). reader_from s.acked s))))
    ∙ told_from readers

-- its tree
pub out_told : (o : OutView) (k : IsOut o) → out_tree o ≡ tree.List (number o.write ∷ tree.List o.held ∷ tree.List (map subscription_tree k.readers) ∷ [])
out_told o k = ap (λ (rs : List Token). tree.List (number o.write ∷ tree.List o.held ∷ tree.List rs ∷ [])) (ap (λ (x : OutView). map reader_tree (take most_readers x.readers)) k.stands ∙ told_again k.readers k.these.few)

-- what stands at a place of both lists
alike : (t : Token) (xs ys : List Token) (i : ℕ) → t ≡ tree.List xs → t ≡ tree.List ys → get_or xs i tree.Null ≡ get_or ys i tree.Null
alike t xs ys i e f = ap (λ (l : List Token). get_or l i tree.Null) (same_list t xs ys e f)

pub out_made : (t : Token) (write : ℕ) (held : List Token) (readers : List Subscription) (port : Option OutView) → IsCount write → AreHeld held → AreReaders readers → SomeIff port (IsOutPort (out_at queue_length write held readers)) (out_at queue_length write held readers)
    → t ≡ tree.List (number write ∷ tree.List held ∷ tree.List (map subscription_tree readers) ∷ [])
    → Spells IsOut out_tree t port
out_made t write held readers None n h r none is = λ o k e.
    let told = e ∙ out_told o k in
    none (out_stands o write held readers k
    (same_number (number o.write) write o.write n k.write (sym (alike t _ _ 0 is told)) refl)
    (same_list (tree.List o.held) held o.held (sym (alike t _ _ 1 is told)) refl)
    (same_readers readers k.readers r.each k.these.each (same_list (tree.List (map subscription_tree k.readers)) _ _ (sym (alike t _ _ 2 is told)) refl)))
out_made t write held readers (Some o) n h r (stands, e) is =
    subst (λ (x : OutView). IsOut x × (t ≡ out_tree x)) (sym e) (
      record { readers = readers; stands = refl; these = r; write = n; positions = stands; held = h },
      is ∙ ap (λ (rs : List Token). tree.List (number write ∷ tree.List held ∷ tree.List rs ∷ [])) (sym (told_again readers r.few)),
    )
