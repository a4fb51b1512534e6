use Rattle.std.proofs.Common.{Ok, rules}
use Rattle.cell.proofs.Calling.{accepted_cell}
use Rattle.cell.proofs.Promising.{deposit_keeps}
use Rattle.cell.proofs.cell.Cell.deposit.Goals as goal

pub returns-in_err-memory-clause-promise : goal.returns-in_err-memory-clause-promise
returns-in_err-memory-clause-promise c = λ n. deposit_keeps c.args.self.now.setup c.args.self.now.state c.args.memory.now n (accepted_cell c.args.self.now) c.args.packet.now c.from_residual.result _ _ (search rules)

pub returns-in_err-ask_of_deposit-clause-promise : goal.returns-in_err-ask_of_deposit-clause-promise
returns-in_err-ask_of_deposit-clause-promise c = λ n. deposit_keeps c.args.self.now.setup c.args.self.now.state c.args.memory.now n (accepted_cell c.args.self.now) c.args.packet.now c.from_residual-in_err-ask_of_deposit.result _ _ (search rules)

pub returns-clause-promise : goal.returns-clause-promise
returns-clause-promise c = λ n. deposit_keeps c.args.self.now.setup c.args.self.now.state c.args.memory.now n (accepted_cell c.args.self.now) c.args.packet.now (Ok tt) _ _ (search rules)
