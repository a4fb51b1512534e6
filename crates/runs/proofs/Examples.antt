-- Each example is computed.
use Rattle.std.proofs.Common.{refl, arith}
use Rattle.runs.specs.Examples.{SentOften, AlikeThroughout, AlikeUntil12, Examples}

sent_often : SentOften
sent_often = record { accepted = refl; synchronous = refl; from_msg3 = refl; replaced = refl; asynchronous_accepted = refl; asynchronous = refl }

alike_throughout : AlikeThroughout
alike_throughout = record {
  stay = _;
  stay' = _;
  other = _;
  of_first = refl;
  of_second = refl;
  elsewhere = refl;
  met_alike = record { accepted = refl; setup = refl; passed = (omega arith, omega arith); began = refl; gap = refl; met = refl };
  sent_in = refl;
  over = refl;
}

alike_until_12 : AlikeUntil12
alike_until_12 = record {
  stay = _;
  stay' = _;
  of_first = refl;
  of_second = refl;
  met_alike = record { accepted = refl; setup = refl; passed = (omega arith, omega arith); began = refl; gap = refl; met = refl };
  sent_in = refl;
  going_on = refl;
  then_first = refl;
  then_second = refl;
}

pub examples : Examples
examples = (sent_often, alike_throughout, alike_until_12)
