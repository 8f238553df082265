-- Where the analysis has nothing to refuse, the order and the prime are in their limits and the matrix is residues, n by n.
use Rattle.std.specs.Prelude.{◌≡◌, List, ℕ, ◌*◌, ◌<◌, eqb, ltb, leb, length}
use Rattle.std.proofs.Common.{sym, subst, arith, eqb→eq, ltb→lt}
use Rattle.std.proofs.Math.Decide.{dec_lt}
use Rattle.std.proofs.Math.ListN.{get_or-eq_default}
use Rattle.forms.specs.Numbers.{at}
use Rattle.forms.specs.Answers.{Asked, fine, ◌then◌, ask, each}
use Rattle.forms.specs.Tests.{ask_fine, then_fine, each_fine}
use Rattle.forms.specs.Primes.{prime_positive}
use Rattle.forms.specs.Certificate.{certificate_length}
use Rattle.forms.specs.Reading.{order_and_prime}
use Rattle.forms.proofs.Layouts.{order_and_prime_means}
use Rattle.forms.specs.Operations.{analysis_asked}
use Rattle.forms.specs.LegalRequests.{Legal}

pub asked_legal : (p n : ℕ) (A : List ℕ) (room : ℕ) → analysis_asked p n A room ≡ fine → Legal p n A
unfolding analysis_asked
asked_legal p n A room e =
    let many : Asked = ask (eqb (length A) (n * n)) 3 (length A) in
    let small : Asked = each (n * n) (λ i. ask (ltb (at A i) p) 4 i) in
    let (x, _) = then_fine (order_and_prime n p then many then small) (ask (leb (certificate_length n) room) 5 (certificate_length n)) e in
    let (y, small_fine) = then_fine (order_and_prime n p then many) small x in
    let (z, many_fine) = then_fine (order_and_prime n p) many y in
    let (low, high, prime_p) = order_and_prime_means n p z in
    let length_is : length A ≡ n * n = eqb→eq (length A) (n * n) (ask_fine (eqb (length A) (n * n)) 3 (length A) many_fine) in
    record {
      low = low;
      high = high;
      prime_p = prime_p;
      residues = record {
        many = length_is;
        small = λ k. elim (dec_lt k (n * n)) [
          | yes l ↦ ltb→lt (at A k) p (ask_fine (ltb (at A k) p) 4 k (each_fine (n * n) (λ i. ask (ltb (at A i) p) 4 i) small_fine k l))
          | no l ↦ subst (λ (x : ℕ). x < p) (sym (get_or-eq_default A 0 {n = k} (omega arith))) (prime_positive p prime_p)
        ];
      };
    }
