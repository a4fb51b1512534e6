-- The codes that frames begin with, as numbers, and the frames of each.
use Rattle.std.specs.Prelude.{ℕ, cond, ◌&&◌, List, length, Ok, Err, Result, ◌==◌, nat_le, slice_index}
use Rattle.terms.specs.declared.answer.Refusal.{Refusal}
use Rattle.terms.specs.declared.answer.Refusal.TheVariants.{NotFrame}
use Rattle.frames.specs.declared.frame.Code.{Code}
use Rattle.frames.specs.declared.frame.Code.TheVariants.{Setup, Subframe, Deposit, Withdrawal, Packet}
use Rattle.frames.specs.Frames.{Plain, deposit, withdrawal, packet, setup_in, answer_of, granted_in, setup_frame, subframe_frame}

abbrev pub code_number : Code → ℕ
code_number Setup = 1
code_number Subframe = 2
code_number Deposit = 3
code_number Withdrawal = 4
code_number Packet = 5

-- the frame of bytes b with this code, whose digits after it are d
abbrev pub framed_as : Code → List ℕ → List ℕ → Result Plain Refusal
framed_as Setup b d = setup_frame (setup_in b)
framed_as Subframe b d = subframe_frame (answer_of (slice_index b 1)) (granted_in b)
framed_as Deposit b d = Ok (deposit d)
framed_as Withdrawal b d = cond (length b == 1) (Ok withdrawal) (Err NotFrame)
framed_as Packet b d = cond (nat_le 2 (length b) && nat_le (length b) 646) (Ok (packet d)) (Err NotFrame)
