-- The state in another order of the basis vectors: what moved columns and rows say of field matrices, and two of them exchanged.
use Rattle.std.specs.Prelude.{◌≡◌, List, [], ℕ, ◌≤◌, ◌<◌, get_or}
use Rattle.std.specs.List.{swap}
use Rattle.std.proofs.Common.{sym, ◌∙◌, ap, arith}
use Rattle.forms.specs.Numbers.{order_limit}
use Rattle.algebra.specs.Modular.{residue, modulo}
use Rattle.matrices.specs.Filling.{filled}
use Rattle.matrices.specs.Matrices.{cell, matrix, matrix_inside, FieldRow, FieldMatrix, Square}
use Rattle.ordering.specs.Exchange.{exchange, exchange_other, exchange_below, swap_at}
use Rattle.basis.specs.Overwriting.{overwritten_cell, overwritten_field}
use Rattle.ordering.specs.Reordering.{Reordered}
use Rattle.basis.specs.declared.steps.State.{State}
use Rattle.basis.specs.State.{Array, frame, Fields}

-- r has the rows of x in the order ρ, and the columns in the order σ
pub record Moved (n : ℕ) (ρ σ : ℕ → ℕ) (x r : Array) : Type 0 where
  pub cells : (i j : ℕ) → i < n → j < n → cell r i j ≡ cell x (ρ i) (σ j)
  pub field : (p : ℕ) → FieldMatrix p n x → FieldMatrix p n r

-- the columns alone, and the rows alone
abbrev pub ColumnsIn : ℕ → (ℕ → ℕ) → Array → Array → Type 0
ColumnsIn n σ = Moved n (λ i. i) σ

abbrev pub RowsIn : ℕ → (ℕ → ℕ) → Array → Array → Type 0
RowsIn n σ = Moved n σ (λ i. i)

-- r is the state s with the basis in the order σ
pub record InOrder (n : ℕ) (σ : ℕ → ℕ) (s r : State) : Type 0 where
  pub reordered : (p : ℕ) → Reordered (modulo p) n σ (frame p n s) (frame p n r)
  pub fields : (p : ℕ) → Fields p n s → Fields p n r

moved_entry : (n : ℕ) (ρ σ : ℕ → ℕ) → ((i : ℕ) → i < n → ρ i < n) → ((i : ℕ) → i < n → σ i < n) → (p : ℕ) (x r : Array) → Moved n ρ σ x r → (i j : ℕ) → i < n → j < n → matrix p n r i j ≡ matrix p n x (ρ i) (σ j)
moved_entry n ρ σ a b p x r m i j l g = matrix_inside p n r i j l g ∙ ap (residue p) (m.cells i j l g) ∙ sym (matrix_inside p n x (ρ i) (σ j) (a i l) (b j g))

module _ (n : ℕ) (σ : ℕ → ℕ) (inside : (i : ℕ) → i < n → σ i < n) where
  pub columns_then_rows : (x c r : Array) → ColumnsIn n σ x c → RowsIn n σ c r → Moved n σ σ x r
  columns_then_rows x c r a b = record { cells = λ i j l g. b.cells i j l g ∙ a.cells (σ i) j (inside i l) g; field = λ p f. b.field p (a.field p f) }

  pub in_order : (s r : State) → Moved n σ σ s.b r.b → ColumnsIn n σ s.t r.t → RowsIn n σ s.back r.back → InOrder n σ s r
  in_order s r b t i = record {
    reordered = λ p. record {
      B = moved_entry n σ σ inside inside p s.b r.b b;
      T = moved_entry n (λ i. i) σ (λ i l. l) inside p s.t r.t t;
      I = moved_entry n σ (λ i. i) inside (λ i l. l) p s.back r.back i;
    };
    fields = λ p h. record { B = b.field p h.B; T = t.field p h.T; I = i.field p h.I };
  }

-- the order on the places below n is all that counts
pub in_order_equal : (n : ℕ) (σ τ : ℕ → ℕ) (s r : State) → ((i : ℕ) → i < n → τ i ≡ σ i) → InOrder n σ s r → InOrder n τ s r
in_order_equal n σ τ s r e x = record {
  reordered = λ p. record {
    B = λ i j l g. rw (e i l, e j g) ((x.reordered p).B i j l g);
    T = λ i j l g. rw (e j g) ((x.reordered p).T i j l g);
    I = λ i j l g. rw (e i l) ((x.reordered p).I i j l g);
  };
  fields = x.fields;
}

-- two columns, or two rows, exchanged
module _ (n a b : ℕ) (l : a < n) (g : b < n) (o : n ≤ order_limit) (x r : Array) (q : Square x) where
  column_cell : (i j : ℕ) → i < n → get_or (swap (get_or x i []) a b) j 0 ≡ cell x i (exchange a b j)
  column_cell i j h = swap_at 0 a b (get_or x i []) (omega (arith, q.wide i (omega arith))) (omega (arith, q.wide i (omega arith))) j

  stays : (i : ℕ) → n ≤ i → exchange a b i ≡ i
  stays i h = exchange_other a b i (omega arith) (omega arith)

  column_row : (p : ℕ) → FieldMatrix p n x → (i : ℕ) → i < n → FieldRow p n (swap (get_or x i []) a b)
  column_row p f i h = record {
    small = λ j c. rw (column_cell i j h) (f.small i (exchange a b j) h (exchange_below n a b l g j c));
    rest = λ j c. column_cell i j h ∙ ap (cell x i) (stays j c) ∙ f.columns i j c;
  }

  pub exchanged_columns : r ≡ filled n (λ i. swap (get_or x i []) a b) x → ColumnsIn n (exchange a b) x r
  exchanged_columns e = rw e (record {
    cells = λ i j c d. overwritten_cell n (λ i. swap (get_or x i []) a b) x i j c ∙ column_cell i j c;
    field = λ p f. overwritten_field n _ x p f (column_row p f);
  })

  row_cell : (i j : ℕ) → cell (swap x a b) i j ≡ cell x (exchange a b i) j
  row_cell i j = ap (λ (v : List ℕ). get_or v j 0) (swap_at [] a b x (omega (arith, q.tall)) (omega (arith, q.tall)) i)

  pub exchanged_rows : r ≡ swap x a b → RowsIn n (exchange a b) x r
  exchanged_rows e = rw e (record {
    cells = λ i j c d. row_cell i j;
    field = λ p f. record {
      small = λ i j c d. rw (row_cell i j) (f.small (exchange a b i) j (exchange_below n a b l g i c) d);
      rows = λ i j c. row_cell i j ∙ ap (λ (t : ℕ). cell x t j) (stays i c) ∙ f.rows i j c;
      columns = λ i j c. row_cell i j ∙ f.columns (exchange a b i) j c;
    };
  })
