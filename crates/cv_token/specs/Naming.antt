-- The identifiers that the control interface shows: version 5 (RFC 9562) of a name, in the nil namespace.
use Rattle.std.specs.Prelude.{ℕ, List, ◌∷◌, ◌++◌, take, codes, decimal}
use Rattle.sha1.specs.Sha1.{sha1}
use Rattle.uuid.specs.Parts.{zero_bytes, with_version, with_variant}
use Rattle.uuid.specs.Text.{hyphenated_text, lower}
use Rattle.uuid.specs.declared.Variant.TheVariants.{RFC4122}
use Rattle.uuid.specs.declared.Version.TheVariants.{Sha1}
use Rattle.cv_token.specs.declared.identifiers.AppId.{AppId}
use Rattle.cv_token.specs.declared.identifiers.ActorId.{ActorId}

-- the lower-case hyphenated identifier of a name
unfoldable pub identifier_of : List ℕ → List ℕ
identifier_of name = hyphenated_text lower (with_version (with_variant (take 16 (sha1 (zero_bytes ++ name))) RFC4122) Sha1)

-- `node/NO`
abbrev pub node_name : ℕ → List ℕ
node_name n = codes "node/" ++ decimal n

-- `app/NODE/SEQ`
abbrev pub app_name : AppId → List ℕ
app_name app = codes "app/" ++ (decimal app.node ++ 47 ∷ decimal app.seq)

-- `actor/NODE/SEQ/ACTOR`
abbrev pub actor_name : ActorId → List ℕ
actor_name a = codes "actor/" ++ (decimal a.app.node ++ 47 ∷ (decimal a.app.seq ++ 47 ∷ decimal a.actor))
