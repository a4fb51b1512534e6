use Rattle.std.proofs.Common.{Ok, rules}
use Rattle.cell.proofs.Calling.{accepted_cell}
use Rattle.cell.proofs.Promising.{withdrawal_keeps}
use Rattle.cell.proofs.cell.Cell.withdraw.Goals as goal

pub returns-in_err-ask_of_withdrawal-clause-promise : goal.returns-in_err-ask_of_withdrawal-clause-promise
returns-in_err-ask_of_withdrawal-clause-promise c = λ m n. withdrawal_keeps c.args.self.now.setup c.args.self.now.state m n (accepted_cell c.args.self.now) c.from_residual.result _ _ (search rules)

pub returns-clause-promise : goal.returns-clause-promise
returns-clause-promise c = λ m n. withdrawal_keeps c.args.self.now.setup c.args.self.now.state m n (accepted_cell c.args.self.now) (Ok tt) _ _ (search rules)
