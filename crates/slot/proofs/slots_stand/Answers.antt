use Rattle.std.proofs.Common.{refl}
use Rattle.slot.specs.Slots.{slot_of}
use Rattle.slot.proofs.Coding.{length_slot, decoded_slot, decoded_front}
use Rattle.slot.proofs.slots_stand.Goals as goal

pub returns : goal.returns
unfolding slot_of
returns c = record {
  back = λ x f. (length_slot x f.packet, decoded_slot x f, λ rest. decoded_front x rest f);
  worked = refl;
}
