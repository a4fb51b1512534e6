-- Lines worked by hand, one of each kind. No two fields have the same number, so that none stands for another.
use Rattle.std.specs.Prelude.{◌≡◌, [], ◌∷◌, Some, None, Ok, Err}
use Rattle.terms.specs.declared.answer.Refusal.TheVariants.{NotHexadecimal, NotFrame}
use Rattle.terms.specs.declared.process.Feedback.TheVariants.{Ack, Nack}
use Rattle.hexadecimal.specs.Hex.{encoded}
use Rattle.frames.specs.Frames.{setup, subframe, deposit, withdrawal, packet, reads}

-- 010102030405060708090a0b0c0d0e0f
abbrev pub SetupLine : Type 0
SetupLine =
    reads (encoded (1 ∷ 1 ∷ 2 ∷ 3 ∷ 4 ∷ 5 ∷ 6 ∷ 7 ∷ 8 ∷ 9 ∷ 10 ∷ 11 ∷ 12 ∷ 13 ∷ 14 ∷ 15 ∷ []))
    ≡ Ok (setup (record { kind = 1; max_harq_tx = 2; max_harq_msg3_tx = 3; interval = 1029; start = 434324723980766221; period = 14; offset = 15 }))

-- 0201030405060708090a0b0c: an ACK, and a grant
abbrev pub GrantLine : Type 0
GrantLine =
    reads (encoded (2 ∷ 1 ∷ 3 ∷ 4 ∷ 5 ∷ 6 ∷ 7 ∷ 8 ∷ 9 ∷ 10 ∷ 11 ∷ 12 ∷ []))
    ≡ Ok (subframe (Some Ack) (Some (record { kind = 3; ndi = 4; mcs = 5; version = 6; process = 7; repetitions = 8; resource = 2314; size = 2828 })))

-- 0202: a NACK, and no grant; 0200: neither
abbrev pub BareLines : Type 0
BareLines = (reads (48 ∷ 50 ∷ 48 ∷ 50 ∷ []) ≡ Ok (subframe (Some Nack) None)) × (reads (48 ∷ 50 ∷ 48 ∷ 48 ∷ []) ≡ Ok (subframe None None))

-- 03c3, 04 and 05a1
abbrev pub PacketLines : Type 0
PacketLines =
    (reads (48 ∷ 51 ∷ 99 ∷ 51 ∷ []) ≡ Ok (deposit (99 ∷ 51 ∷ []))) × (reads (48 ∷ 52 ∷ []) ≡ Ok withdrawal) × (reads (48 ∷ 53 ∷ 97 ∷ 49 ∷ []) ≡ Ok (packet (97 ∷ 49 ∷ [])))

-- 0G and 040 are no bytes in hexadecimal; 05, 0203 and 06 are no frames
abbrev pub RefusedLines : Type 0
RefusedLines =
    (reads (48 ∷ 71 ∷ []) ≡ Err NotHexadecimal) × (reads (48 ∷ 52 ∷ 48 ∷ []) ≡ Err NotHexadecimal) × (reads (48 ∷ 53 ∷ []) ≡ Err NotFrame) × (reads (48 ∷ 50 ∷ 48 ∷ 51 ∷ []) ≡ Err NotFrame) × (reads (48 ∷ 54 ∷ []) ≡ Err NotFrame)

pub record WorkedLines : Type 0 where
  pub setup_line : SetupLine
  pub grant_line : GrantLine
  pub bare_lines : BareLines
  pub packet_lines : PacketLines
  pub refused_lines : RefusedLines
