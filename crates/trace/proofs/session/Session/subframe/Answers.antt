use Rattle.std.proofs.Common.{◌≡◌, refl, rules}
use Rattle.trace.specs.Standing.{replied}
use Rattle.trace.specs.Sessions.{standing_of}
use Rattle.trace.proofs.Working.{called_whole}
use Rattle.trace.proofs.session.Session.subframe.Goals as goal

pub returns : goal.returns
returns c =
    let e : c.map.result ≡ replied c.subframe.result = search rules in
    called_whole (standing_of c.args.self.now) c.args.self.now.book c.subframe.new.self.setup c.map.result c.args.answer c.args.grant _ e c.subframe.ensures.setup refl c.subframe.ensures.whole
