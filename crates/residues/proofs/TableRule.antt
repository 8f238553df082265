-- The rule of the reciprocals modulo 251: one test over the whole table, carried to each entry.
use Rattle.std.specs.Prelude.{Bool, ◌&&◌, ℕ, zero, suc, ◌*◌, ◌%◌, ◌<◌, T, eqb, ltb, get_or}
use Rattle.std.proofs.Common.{arith, eqb→eq, ltb→lt}
use Rattle.forms.specs.Numbers.{every}
use Rattle.forms.specs.Reciprocals.{InverseOf}
use Rattle.forms.specs.Tests.{and_parts, every_at}
use Rattle.residues.specs.Table.{reciprocals}

-- what is asked of the entry r at the index x: r is below 251, x r is 1 modulo 251, and 0 stands at 0
abbrev rule : ℕ → ℕ → Bool
rule zero r = ltb r 251 && eqb r 0
rule (suc k) r = ltb r 251 && eqb ((suc k * r) % 251) 1

rule_says : (x r : ℕ) → T (rule x r) → InverseOf 251 x r
rule_says zero r t = record {
  small = ltb→lt r 251 (and_parts (ltb r 251) (eqb r 0) t).0;
  of_zero = λ e. eqb→eq r 0 (and_parts (ltb r 251) (eqb r 0) t).1;
  of_other = λ l. absurd (omega arith);
}
rule_says (suc k) r t = record {
  small = ltb→lt r 251 (and_parts (ltb r 251) (eqb ((suc k * r) % 251) 1) t).0;
  of_zero = λ e. absurd (omega arith);
  of_other = λ l. eqb→eq ((suc k * r) % 251) 1 (and_parts (ltb r 251) (eqb ((suc k * r) % 251) 1) t).1;
}

-- one test over the whole table
tested : T (every 251 (λ x. rule x (get_or reciprocals x 0)))
unfolding every reciprocals
tested = tt

pub reciprocal_at : (x : ℕ) → x < 251 → InverseOf 251 x (get_or reciprocals x 0)
reciprocal_at x l = rule_says x (get_or reciprocals x 0) (every_at 251 (λ k. rule k (get_or reciprocals k 0)) tested x l)
