-- The questions of the analysis, one after the other: what each refusal comes to, and that there is none.
use Rattle.std.specs.Prelude.{◌≡◌, List, ℕ, ◌*◌, ◌≤◌, ◌<◌, eqb, ltb, leb, length}
use Rattle.std.proofs.Common.{sym, ◌∙◌, mul-le-mul, arith, eqb→eq, le→leb}
use Rattle.std.proofs.Math.Path.{ap}
use Rattle.std.proofs.Math.Dec.{leb→le}
use Rattle.forms.specs.Numbers.{at, order_limit, prime_limit}
use Rattle.forms.specs.Answers.{Asked, fine, refuse, ◌then◌, ask, each}
use Rattle.forms.specs.Certificate.{certificate_length}
use Rattle.forms.specs.Reading.{order_and_prime}
use Rattle.forms.specs.Operations.{analysis_asked}
use Rattle.forms.specs.Tests.{equal_holds, ask_fine, fine_ask, refuse_ask, then_fine, fine_then, refuse_then}
use Rattle.forms.specs.Primes.{prime_limited}
use Rattle.forms.proofs.Layouts.{order_and_prime_means}

module _ (n p : ℕ) (limits : order_and_prime n p ≡ fine) where
  pub order_kept : n ≤ order_limit
  order_kept = (order_and_prime_means n p limits).1

  pub square_kept : n * n ≤ order_limit * order_limit
  square_kept = mul-le-mul order_kept order_kept

  pub prime_kept : p ≤ prime_limit
  prime_kept = prime_limited p (order_and_prime_means n p limits).2

module _ (p n : ℕ) (A : List ℕ) (room : ℕ) where
  abbrev many : Asked
  many = ask (eqb (length A) (n * n)) 3 (length A)

  abbrev small : ℕ → Asked
  small z = each z (λ i. ask (ltb (at A i) p) 4 i)

  abbrev roomy : Asked
  roomy = ask (leb (certificate_length n) room) 5 (certificate_length n)

  pub limits_refused : {number place : ℕ} → order_and_prime n p ≡ refuse number place → analysis_asked p n A room ≡ refuse number place
  unfolding analysis_asked
  limits_refused e = refuse_then roomy (refuse_then (small (n * n)) (refuse_then many e))

  module _ (limits : order_and_prime n p ≡ fine) where
    pub length_refused : (length A ≡ n * n → ⊥) → analysis_asked p n A room ≡ refuse 3 (length A)
    unfolding analysis_asked
    length_refused h = refuse_then roomy (refuse_then (small (n * n)) (fine_then limits ∙ refuse_ask (eqb (length A) (n * n)) 3 (length A) (λ t. h (eqb→eq (length A) (n * n) t))))

    module _ (long : length A ≡ n * n) where
      counted : (order_and_prime n p then many) ≡ fine
      counted = fine_then limits ∙ fine_ask (eqb (length A) (n * n)) 3 (length A) (equal_holds (length A) (n * n) long)

      pub entry_refused : {number place : ℕ} → small (length A) ≡ refuse number place → analysis_asked p n A room ≡ refuse number place
      unfolding analysis_asked
      entry_refused e = refuse_then roomy (fine_then counted ∙ ap small (sym long) ∙ e)

      module _ (entries : small (length A) ≡ fine) where
        before_room : (order_and_prime n p then many then small (n * n)) ≡ fine
        before_room = fine_then counted ∙ ap small (sym long) ∙ entries

        pub room_refused : room < certificate_length n → analysis_asked p n A room ≡ refuse 5 (certificate_length n)
        unfolding analysis_asked
        room_refused l = fine_then before_room ∙ refuse_ask (leb (certificate_length n) room) 5 (certificate_length n) (λ t. (let h = leb→le (certificate_length n) room t in omega arith))

        pub nothing_refused : certificate_length n ≤ room → analysis_asked p n A room ≡ fine
        unfolding analysis_asked
        nothing_refused l = fine_then before_room ∙ fine_ask (leb (certificate_length n) room) 5 (certificate_length n) (le→leb (certificate_length n) room l)

  -- where nothing is refused there is room
  pub asked_room : analysis_asked p n A room ≡ fine → certificate_length n ≤ room
  unfolding analysis_asked
  asked_room e = leb→le (certificate_length n) room (ask_fine (leb (certificate_length n) room) 5 (certificate_length n) (then_fine (order_and_prime n p then many then small (n * n)) roomy e).1)
