use Rattle.std.proofs.Common.{◌≡◌, map, take}
use Rattle.std.specs.List.{All}
use Rattle.cv_entry.specs.Trees.{attr_member}
use Rattle.cv_entry.specs.Values.{IsAttr}
use Rattle.cv_entry.proofs.attrs.attrs_of.Given as goal

-- the attributes that have the trees passed so far
abbrev pub invariant-loop-pair : goal.invariant-loop-pair
invariant-loop-pair l = All IsAttr l.attrs × (map attr_member l.attrs ≡ take l.pair-index l.pair-items)
