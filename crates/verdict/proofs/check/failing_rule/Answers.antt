-- The three searches in turn: what has failed stays the answer.
use Rattle.verdict.specs.NineRules.{searched_stays}
use Rattle.verdict.proofs.check.failing_rule.Goals as goal

pub returns-in_err-diagonal_rules : goal.returns-in_err-diagonal_rules
returns-in_err-diagonal_rules c = searched_stays _ 3 6 _ _ c.diagonal_rules.ensures c.in_err-diagonal_rules.was c.from_residual.ensures.1

pub returns-in_err-smith_rules : goal.returns-in_err-smith_rules
returns-in_err-smith_rules c = searched_stays _ 6 3 _ _ c.smith_rules.ensures c.in_err-smith_rules.was c.from_residual-in_err-smith_rules.ensures.1
