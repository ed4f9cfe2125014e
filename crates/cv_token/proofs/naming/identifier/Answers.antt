use Rattle.std.proofs.Common.{◌≡◌, ℕ, List, ◌++◌, take, ap, ap₂, ◌∙◌}
use Rattle.sha1.specs.Sha1.{sha1}
use Rattle.uuid.specs.Parts.{zero_bytes, with_version, with_variant}
use Rattle.uuid.specs.Text.{hyphenated_text, lower}
use Rattle.uuid.specs.declared.Variant.TheVariants.{RFC4122}
use Rattle.uuid.specs.declared.Version.TheVariants.{Sha1}
use Rattle.cv_token.specs.Naming.{identifier_of}
use Rattle.cv_token.proofs.naming.identifier.Goals as goal

abbrev named : List ℕ → List ℕ → List ℕ
named space name = with_version (with_variant (take 16 (sha1 (space ++ name))) RFC4122) Sha1

written : (id space bytes name : List ℕ) → id ≡ named space bytes → space ≡ zero_bytes → bytes ≡ name → hyphenated_text lower id ≡ identifier_of name
unfolding identifier_of
written id space bytes name is nil same = ap (hyphenated_text lower) (is ∙ ap₂ named nil same)

pub returns : goal.returns
returns c =
    c.from_string.ensures
    ∙ c.in_ok-from_str.ensures.ok
    ∙ c.encode_lower-text.ensures.text
    ∙ ap (hyphenated_text lower) c.hyphenated.ensures
    ∙ written c.new_v5-id.result c.nil.result c.as_bytes.result.now c.args.name.now c.new_v5-id.ensures.value c.nil.ensures c.as_bytes.ensures.value
