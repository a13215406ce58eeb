-- Words name some list of files.
use Rattle.std.proofs.Common.{◌≡◌, inl, inr, refl, Bool, true, false, List, []}
use Rattle.dc_words.specs.Reading.{takes_words}
use Rattle.dc_words.proofs.Found.{has_reading}
use Rattle.dc_answers.specs.Outside.{File}
use Rattle.dc_answers.specs.Ends.{files_of, Names}
use Rattle.dc_existence.specs.Laws.{HasNames}

pub has_names : HasNames
has_names words = go (takes_words words) refl
  where
    go : (b : Bool) → takes_words words ≡ b → (files : List File) × Names words files
    go false e = ([], inl (e, refl))
    go true e =
        let r = has_reading words e in
        (files_of r.0, inr (r.0, r.1, refl))
