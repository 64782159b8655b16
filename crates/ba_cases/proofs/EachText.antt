-- Each file that was read has a text.

use Rattle.std.proofs.Common.{◌≡◌, ℕ, suc, List, [], ◌∷◌, length, refl, ap}
use Rattle.ba_files.specs.Files.{AreRead}
use Rattle.ba_files.specs.declared.files.Named.{Named}
use Rattle.ba_world.specs.World.{Outside}

pub each_read : (files : List Named) (texts : List (List ℕ)) (before after : Outside) →
    AreRead files texts before after → length texts ≡ length files
each_read [] [] before after is = refl
each_read [] (text ∷ texts) before after is = absurd is
each_read (file ∷ files) [] before after is = absurd is
each_read (file ∷ files) (text ∷ texts) before after (next, read, others) =
    ap suc (each_read files texts next after others)
