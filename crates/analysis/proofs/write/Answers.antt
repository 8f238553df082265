-- The elimination and the tables of its blocks give a certificate, and its layout is what the records are.
use Rattle.std.proofs.Common.{◌≡◌, ℕ, List, ◌++◌, drop, ◌∙◌}
use Rattle.forms.specs.Certificate.{Certificate, layout, certificate_length}
use Rattle.forms.specs.Words.{LaidOut, Certified}
use Rattle.forms.specs.LegalRequests.{Legal}
use Rattle.forms.specs.Primes.{prime_positive}
use Rattle.basis.specs.State.{Array}
use Rattle.basis.specs.declared.steps.State.{State}
use Rattle.heads.specs.Heads.{Ordered, LastRows}
use Rattle.elimination.specs.Reduced.{Reduced}
use Rattle.matrices.specs.Loading.{loaded, loaded_field}
use Rattle.analysis.specs.Loading.{loaded_holds}
use Rattle.payloads.specs.Written.{written, written_certifies}
use Rattle.analysis.proofs.write.Goals as goal

-- what the elimination and the tables of its blocks come to
certifies : {p n : ℕ} {A : List ℕ} {m : Array} {s : State} {from last : List ℕ}
    → Legal p n A → m ≡ loaded n A → Reduced p n m s → Ordered s.b n n from → LastRows s.b n 0 last
    → Reduced p n (loaded n A) s × LaidOut (written p n A s from last) × Certified p n A (written p n A s from last)
certifies {p} {n} {A} {m} {s} {from} {last} legal e r rows ends =
    let reduced : Reduced p n (loaded n A) s = rw e at r in
    let all = written_certifies p n A legal _ (loaded_holds _ _) s reduced from last rows ends in
    (reduced, all.0, all.1)

-- the request, with p and n as the modulus and the order hold them
legal_in : {p n q k : ℕ} {A : List ℕ} → q ≡ p → k ≡ n → Legal p n A → Legal q k A
legal_in e f h = rw (e, f) h

-- and what is written, as p and n have it
written_of : {p n q k many : ℕ} {A : List ℕ} (before after : List ℕ) {w : Certificate} → q ≡ p → k ≡ n → many ≡ certificate_length k → after ≡ layout w ++ drop (certificate_length k) before → LaidOut w → Certified q k A w
    → (many ≡ certificate_length n) × ((c : Certificate) × (after ≡ layout c ++ drop (certificate_length n) before) × LaidOut c × Certified p n A c)
written_of before after {w} e f a b l h = (rw f at a, (w, rw f at b, l, rw (e, f) at h))

pub new-modulus-requires : goal.new-modulus-requires
new-modulus-requires c = prime_positive c.args.p c.requires.0.prime_p

pub reduce-state-requires : goal.reduce-state-requires
reduce-state-requires c =
    let legal = legal_in c.new-modulus.ensures (c.new-order.ensures ∙ c.from.ensures) c.requires.0 in
    (legal.prime_p, rw c.field_matrix.ensures (loaded_field _ _ _ legal.residues))

pub put_records-requires : goal.put_records-requires
put_records-requires c =
    let legal = legal_in c.new-modulus.ensures (c.new-order.ensures ∙ c.from.ensures) c.requires.0 in
    (rw (c.new-order.ensures ∙ c.from.ensures) c.requires.1, (certifies legal c.field_matrix.ensures c.reduce-state.ensures c.order.ensures c.last_rows.ensures).1)

pub returns : goal.returns
returns c =
    let legal = legal_in c.new-modulus.ensures (c.new-order.ensures ∙ c.from.ensures) c.requires.0 in
    let (reduced, laid, certified) = certifies legal c.field_matrix.ensures c.reduce-state.ensures c.order.ensures c.last_rows.ensures in
    written_of c.args.out.now _ c.new-modulus.ensures (c.new-order.ensures ∙ c.from.ensures) c.put_records.ensures.0 c.put_records.ensures.1 laid certified
