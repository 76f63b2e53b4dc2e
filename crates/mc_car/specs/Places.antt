-- The parts of a file by their places in it.
use Rattle.std.specs.Prelude.{◌≡◌, ℕ, ◌-◌, ◌<◌, ◌≤◌, List, ◌++◌, length, take, drop, Ok}
use Rattle.mc_base.specs.Cid.{digest_of}
use Rattle.mc_base.specs.declared.cid.Cid.{Cid}
use Rattle.mc_car.specs.Car.{IsCarText}
use Rattle.mc_car.specs.CarRead.{car_of, car_with, onto_sections, sections_at}
use Rattle.mc_car.specs.declared.car.Section.{Section}
use Rattle.mc_car.specs.declared.places.Front.{Front}
use Rattle.mc_car.specs.declared.places.Place.{Place}

-- the file has these roots, and the sections from this offset on
pub record IsFront (text : List ℕ) (front : Front) : Type 0 where
  pub inside : front.end ≤ length text
  pub whole : car_of text ≡ car_with (Ok front.roots) (sections_at text front.end)

-- the section at a place of a file
abbrev pub section_there : List ℕ → Place → Section
section_there text place = record { cid = place.cid; bytes = take (place.to - place.from) (drop place.from text) }

-- the first of the sections from this offset on stands at the place, and the others after it; its bytes have its
-- identifier
pub record IsPlace (text : List ℕ) (at : ℕ) (place : Place) : Type 0 where
  pub begins : at < place.from
  pub order : place.from ≤ place.to
  pub ends : place.to ≤ length text
  pub first : sections_at text at ≡ onto_sections (Ok (section_there text place)) (sections_at text place.to)
  pub named : digest_of (take (place.to - place.from) (drop place.from text)) ≡ place.cid.0

-- a file with any roots and sections has these besides, after its own
abbrev pub AddsSections : List ℕ → List ℕ → List Section → Type 0
AddsSections old new more =
    (roots : List Cid) (sections : List Section) → IsCarText old roots sections → IsCarText new roots (sections ++ more)
