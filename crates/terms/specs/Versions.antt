-- The redundancy version sequence 0, 2, 3, 1.
use Rattle.std.specs.Prelude.{◌+◌, ◌%◌, cond, ◌==◌}
use Rattle.terms.specs.declared.version.Irv.{Irv}
use Rattle.terms.specs.declared.version.RedundancyVersion.{RedundancyVersion}

-- the version at a place of the sequence
abbrev pub version_at : Irv → RedundancyVersion
version_at i = record { 0 = cond (i.0 == 0) 0 (cond (i.0 == 1) 2 (cond (i.0 == 2) 3 1)) }

-- the place of a version
abbrev pub index_of : RedundancyVersion → Irv
index_of v = record { 0 = cond (v.0 == 0) 0 (cond (v.0 == 2) 1 (cond (v.0 == 3) 2 3)) }

-- the place after a place, modulo 4
abbrev pub next_index : Irv → Irv
next_index i = record { 0 = (i.0 + 1) % 4 }
