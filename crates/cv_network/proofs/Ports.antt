-- The names of ports that are there.
use Rattle.std.proofs.Common.{◌≡◌, ℕ, ◌<◌, List, [], length, slice_get, Option, Some, None, sym, ◌∙◌, arith}
use Rattle.std.proofs.lemmas.Option.{slice_get-get_or}
use Rattle.cv_token.specs.declared.token.Token.{Token}
use Rattle.cv_token.specs.declared.token.Token.TheVariants as tree
use Rattle.cv_kinds.specs.declared.kind.Kind.{Kind}
use Rattle.cv_kinds.specs.KindRow.{row_of}
use Rattle.cv_kinds.specs.Names.{inport_named, outport_named}
use Rattle.cv_kinds.specs.Table.{line_of}
use Rattle.cv_kinds.proofs.Lines.{inports_are, outports_are}
use Rattle.cv_kinds.proofs.Ports.{inport_at, outport_at}
use Rattle.cv_network.specs.Written.{name_token, port_token}

one_text : (s r : List ℕ) → tree.Text s ≡ tree.Text r → s ≡ r
one_text s r e = cc

no_text : (s : List ℕ) → tree.Text s ≡ tree.Null → ⊥
no_text s e = cc

name_is : (o : Option (List ℕ)) (name : List ℕ) → tree.Text name ≡ name_token o → o ≡ Some name
name_is None name e = absurd (no_text name e)
name_is (Some s) name e = let same : s ≡ name = one_text s name (sym e) in λ i. Some (same i)

pub outport_known : (k : Kind) (port : ℕ) (name : List ℕ) (t : Token) → t ≡ tree.Text name → t ≡ port_token (line_of k).outports port → outport_named k name ≡ Some port
outport_known k port name t is e = outport_at k port name (name_is (slice_get (line_of k).outports port) name (sym is ∙ e))

pub inport_known : (k : Kind) (port : ℕ) (name : List ℕ) (t : Token) → t ≡ tree.Text name → t ≡ port_token (line_of k).inports port → inport_named k name ≡ Some port
inport_known k port name t is e = inport_at k port name (name_is (slice_get (line_of k).inports port) name (sym is ∙ e))

text_there : (names : List (List ℕ)) (port : ℕ) (t : Token) → port < length names → t ≡ port_token names port → (name : List ℕ) × (t ≡ tree.Text name)
text_there names port t h e = let at = slice_get-get_or names port [] h in (_, e ∙ (λ i. name_token (at i)))

pub outport_text : (k : Kind) (port : ℕ) (t : Token) → port < (row_of k).outports → t ≡ port_token (line_of k).outports port → (name : List ℕ) × (t ≡ tree.Text name)
outport_text k port t h e = text_there (line_of k).outports port t (omega (arith, h, outports_are k)) e

pub inport_text : (k : Kind) (port : ℕ) (t : Token) → port < (row_of k).inports → t ≡ port_token (line_of k).inports port → (name : List ℕ) × (t ≡ tree.Text name)
inport_text k port t h e = text_there (line_of k).inports port t (omega (arith, h, inports_are k)) e
