-- What holds of all that scripts are expanded to.
use Rattle.std.specs.Prelude.{◌≤◌, length}
use Rattle.cv_expand.specs.declared.flat.Parts.{Parts}
use Rattle.cv_expand.specs.Bodies.{Distinct, paths}
use Rattle.cv_expand.specs.Runs.{most_places, most_feeds, place_count}

-- at most 256 actors and instances together, and at most 4,096 joins
pub record AreFew (parts : Parts) : Type 0 where
  pub places : place_count parts ≤ most_places
  pub feeds : length parts.feeds ≤ most_feeds

-- within the bounds, and no two actors or instances at one path
pub record IsFlat (parts : Parts) : Type 0 where
  pub few : AreFew parts
  pub distinct : Distinct (paths parts)
