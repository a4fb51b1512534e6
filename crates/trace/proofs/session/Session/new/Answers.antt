use Rattle.std.proofs.Common.{refl}
use Rattle.below.specs.Book.{left}
use Rattle.below.specs.Mailbox.{mailbox_radioed}
use Rattle.trace.proofs.Working.{fresh_session}
use Rattle.trace.proofs.session.Session.new.Goals as goal

pub returns : goal.returns
returns c = fresh_session _ _ _ _ _ _ (mailbox_radioed c.new.result) _ (left c.new-2.result) _ refl c.new.ensures c.new-2.ensures
