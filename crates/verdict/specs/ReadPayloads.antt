-- What reading gives the rules: the payloads of a certificate that is read have their lengths, and are residues modulo a prime.
use Rattle.std.specs.Prelude.{◌≡◌, List, ℕ, suc, ◌*◌, ◌≤◌, ◌<◌, T, length}
use Rattle.std.proofs.Common.{◌∙◌, ap, eqb→eq}
use Rattle.forms.specs.Numbers.{at, prime}
use Rattle.forms.specs.Answers.{fine}
use Rattle.forms.specs.Certificate.{part}
use Rattle.forms.specs.Reading.{reading, certificate_of}
use Rattle.forms.specs.Rules.{rule}
use Rattle.forms.specs.Words.{LaidOut}
use Rattle.forms.specs.Tests.{every_at}
use Rattle.forms.specs.Primes.{prime_means}
use Rattle.forms.proofs.Layouts.{reading_laid_out}
use Rattle.forms.proofs.Payloads.{MA_residues, DF_residues, PL_residues, PI_residues, QR_residues, QI_residues, FB_residues, TB_residues, TI_residues}
use Rattle.rules.specs.Diagonal.{MonicPayload}
use Rattle.products.specs.Products.{Inverses}
use Rattle.rules.specs.SmithEntries.{SmithPayloads}
use Rattle.rules.specs.FrobeniusSearch.{FrobeniusPayloads}
use Rattle.rules.specs.FieldRules.{BasePayloads, SimilarPayloads}

-- p and n are those of the header
module _ (s : List ℕ) (read : reading s ≡ fine) {p n : ℕ} (ep : p ≡ at s 4) (en : n ≡ at s 5) where
  abbrev laid : LaidOut (certificate_of s)
  laid = reading_laid_out s read

  pub some_order : 1 ≤ n
  unfolding certificate_of
  some_order = rw en laid.low

  pub prime_p : T (prime p)
  unfolding certificate_of
  prime_p = rw ep laid.prime_p

  large : 1 < p
  large = (prime_means p prime_p).large

  module _ (d : List ℕ) (is : d ≡ part (at s 5) 2 s) where
    pub diagonal_long : length d ≡ n * suc n
    unfolding certificate_of
    diagonal_long = rw en (ap length is ∙ (DF_residues (certificate_of s) laid).many)

    diagonal_residues : (k : ℕ) → at d k < p
    unfolding certificate_of
    diagonal_residues k = rw (is, ep) ((DF_residues (certificate_of s) laid).small k)

    pub monic_payload : T (rule (certificate_of s) 0) → MonicPayload p n d
    unfolding certificate_of rule
    monic_payload t = record {
      prime_p = prime_p;
      small = diagonal_residues;
      one = λ i l. rw (is, en) (eqb→eq _ _ (every_at (at s 5) _ t i (rw en at l)));
    }

    pub frobenius_payloads : (f : List ℕ) → f ≡ part (at s 5) 7 s → FrobeniusPayloads p n d f
    unfolding certificate_of
    frobenius_payloads f e = record {
      small = diagonal_residues;
      long = rw en (ap length e ∙ (FB_residues (certificate_of s) laid).many);
      field_small = λ k. rw (e, ep) ((FB_residues (certificate_of s) laid).small k);
      large = large;
    }

  pub smith_payloads : (P A I : List ℕ) → P ≡ part (at s 5) 3 s → A ≡ part (at s 5) 1 s → I ≡ part (at s 5) 6 s → SmithPayloads p n P A I
  unfolding certificate_of
  smith_payloads P A I e f g = record {
    left_long = rw en (ap length e ∙ (PL_residues (certificate_of s) laid).many);
    matrix_long = rw en (ap length f ∙ (MA_residues (certificate_of s) laid).many);
    right_long = rw en (ap length g ∙ (QI_residues (certificate_of s) laid).many);
    small = λ k. rw (f, ep) ((MA_residues (certificate_of s) laid).small k);
  }

  pub left_payloads : (P I : List ℕ) → P ≡ part (at s 5) 3 s → I ≡ part (at s 5) 4 s → Inverses n P I
  unfolding certificate_of
  left_payloads P I e f = record {
    left_long = rw en (ap length e ∙ (PL_residues (certificate_of s) laid).many);
    right_long = rw en (ap length f ∙ (PI_residues (certificate_of s) laid).many);
  }

  pub right_payloads : (Q I : List ℕ) → Q ≡ part (at s 5) 5 s → I ≡ part (at s 5) 6 s → Inverses n Q I
  unfolding certificate_of
  right_payloads Q I e f = record {
    left_long = rw en (ap length e ∙ (QR_residues (certificate_of s) laid).many);
    right_long = rw en (ap length f ∙ (QI_residues (certificate_of s) laid).many);
  }

  pub base_payloads : (T I : List ℕ) → T ≡ part (at s 5) 8 s → I ≡ part (at s 5) 9 s → BasePayloads p n T I
  unfolding certificate_of
  base_payloads T I e f = record {
    large = large;
    base_long = rw en (ap length e ∙ (TB_residues (certificate_of s) laid).many);
    back_long = rw en (ap length f ∙ (TI_residues (certificate_of s) laid).many);
  }

  pub similar_payloads : (A T F : List ℕ) → A ≡ part (at s 5) 1 s → T ≡ part (at s 5) 8 s → F ≡ part (at s 5) 7 s → SimilarPayloads n A T F
  unfolding certificate_of
  similar_payloads A T F e f g = record {
    matrix_long = rw en (ap length e ∙ (MA_residues (certificate_of s) laid).many);
    base_long = rw en (ap length f ∙ (TB_residues (certificate_of s) laid).many);
    form_long = rw en (ap length g ∙ (FB_residues (certificate_of s) laid).many);
  }
