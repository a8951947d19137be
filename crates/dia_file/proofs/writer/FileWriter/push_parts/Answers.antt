use Rattle.std.proofs.Common.{◌≡◌, ℕ, ◌+◌, ◌<◌, ◌≤◌, ◌++◌, ◌∷◌, [], false, true, List, length, refl, sym, ap, subst, ◌∙◌, rules, arith}
use Rattle.row_defs.specs.declared.kind.Kind.{Kind}
use Rattle.row_defs.specs.Rows.{Row, IsRow}
use Rattle.dia_item.specs.Sizes.{longest_row}
use Rattle.block_pool.specs.Handles.{PoolName}
use Rattle.dia_file.specs.declared.writer.FileWriter.TheInside.{Inside}
use Rattle.dia_file.specs.Parts.{bytes_of}
use Rattle.dia_file.specs.Writers.{WriterValue, writer_value, IsWriterOf}
use Rattle.dia_file.proofs.WriterLemmas.{Left, row_some, bytes_fit, pushed, torn, rows_length}
use Rattle.dia_file.proofs.writer.FileWriter.push_parts.Goals as goal

pub put_row-requires-clause-some : goal.put_row-requires-clause-some
put_row-requires-clause-some g c =
    let P : List Kind → Type 0 = λ ks. 0 < length ks in
    row_some _ _ _ (subst P (ap (λ (w : WriterValue). w.kinds) c.self.view_is) c.self.invariant.some_kinds) c.requires.row.1

pub overflow_add-self-in-Ok-2 : goal.overflow_add-self-in-Ok-2
overflow_add-self-in-Ok-2 g c =
    let short : c.len-len.result ≤ longest_row = omega (arith, c.len-len.ensures, c.requires.most) in
    let fits = bytes_fit c.self.inside c.len-len.result c.self.invariant c.if-self.false short in search rules

pub returns-then-self-clause-refused : goal.returns-then-self-clause-refused
returns-then-self-clause-refused g c =
    let rows = rows_length c.self.inside c.args.self.now c.self.invariant c.self.view_is in
    let limit = ap (λ (w : WriterValue). w.limit) c.self.view_is in
    (limit, rows ∙ c.if-self.true ∙ limit, refl, refl)

pub invariant_of-self : goal.invariant_of-self
invariant_of-self g c =
    let w : Inside = c.self.inside in
    let v : Inside = record { kinds = w.kinds; limit = w.limit; rows = w.rows + 1; bytes = w.bytes + c.len-len.result; sealed = c.put_row.new.sealed; frame = c.put_row.new.frame; ends = c.put_row.new.ends + 1; broken = w.broken } in
    let row : Row = c.requires.row.0 in
    let P : List Kind → Type 0 = λ ks. IsRow ks (bytes_of c.args.parts) row in
    let Q : WriterValue → Type 0 = λ x. IsWriterOf c.args.hand.now.pool x in
    let is = subst P (sym (ap (λ (x : WriterValue). x.kinds) c.self.view_is)) c.requires.row.1 in
    let unbroken : w.broken ≡ false = ap (λ (x : WriterValue). x.is_broken) c.self.view_is ∙ c.requires.unbroken in
    let left : Left c.args.hand.now.pool v (_ ++ row ∷ []) = pushed w v c.args.hand.now.pool row (bytes_of c.args.parts) c.put_row.new.ends c.self.invariant unbroken
    (subst Q (sym c.self.view_is) c.requires.own) c.if-self.false is c.put_row.ensures.own c.in-Ok.ensures.some c.in-Ok.ensures.ok refl refl refl (ap (λ (n : ℕ). w.bytes + n) c.len-len.ensures) refl in
    left.writer

pub returns-in-Ok-clause-ok : goal.returns-in-Ok-clause-ok
returns-in-Ok-clause-ok g c = λ row is_row.
    let w : Inside = c.self.inside in
    let v : Inside = record { kinds = w.kinds; limit = w.limit; rows = w.rows + 1; bytes = w.bytes + c.len-len.result; sealed = c.put_row.new.sealed; frame = c.put_row.new.frame; ends = c.put_row.new.ends + 1; broken = w.broken } in
    let P : List Kind → Type 0 = λ ks. IsRow ks (bytes_of c.args.parts) row in
    let Q : WriterValue → Type 0 = λ x. IsWriterOf c.args.hand.now.pool x in
    let is = subst P (sym (ap (λ (x : WriterValue). x.kinds) c.self.view_is)) is_row in
    let unbroken : w.broken ≡ false = ap (λ (x : WriterValue). x.is_broken) c.self.view_is ∙ c.requires.unbroken in
    let left : Left c.args.hand.now.pool v (_ ++ row ∷ []) = pushed w v c.args.hand.now.pool row (bytes_of c.args.parts) c.put_row.new.ends c.self.invariant unbroken
    (subst Q (sym c.self.view_is) c.requires.own) c.if-self.false is c.put_row.ensures.own c.in-Ok.ensures.some c.in-Ok.ensures.ok refl refl refl (ap (λ (n : ℕ). w.bytes + n) c.len-len.ensures) refl in
    left.rows_are ∙ ap (λ (x : WriterValue). x.rows ++ row ∷ []) c.self.view_is

pub returns-in-Ok-clause-own : goal.returns-in-Ok-clause-own
returns-in-Ok-clause-own g c =
    let w : Inside = c.self.inside in
    let v : Inside = record { kinds = w.kinds; limit = w.limit; rows = w.rows + 1; bytes = w.bytes + c.len-len.result; sealed = c.put_row.new.sealed; frame = c.put_row.new.frame; ends = c.put_row.new.ends + 1; broken = w.broken } in
    let row : Row = c.requires.row.0 in
    let P : List Kind → Type 0 = λ ks. IsRow ks (bytes_of c.args.parts) row in
    let Q : WriterValue → Type 0 = λ x. IsWriterOf c.args.hand.now.pool x in
    let is = subst P (sym (ap (λ (x : WriterValue). x.kinds) c.self.view_is)) c.requires.row.1 in
    let unbroken : w.broken ≡ false = ap (λ (x : WriterValue). x.is_broken) c.self.view_is ∙ c.requires.unbroken in
    let left : Left c.args.hand.now.pool v (_ ++ row ∷ []) = pushed w v c.args.hand.now.pool row (bytes_of c.args.parts) c.put_row.new.ends c.self.invariant unbroken
    (subst Q (sym c.self.view_is) c.requires.own) c.if-self.false is c.put_row.ensures.own c.in-Ok.ensures.some c.in-Ok.ensures.ok refl refl refl (ap (λ (n : ℕ). w.bytes + n) c.len-len.ensures) refl in
    let R : PoolName → Type 0 = λ p. IsWriterOf p (writer_value v) in
    subst R (sym c.put_row.ensures.follows.pool) left.own

pub returns-in-Ok-clause-full : goal.returns-in-Ok-clause-full
returns-in-Ok-clause-full g c = λ full.
    let rows = rows_length c.self.inside c.args.self.now c.self.invariant c.self.view_is in
    absurd (c.if-self.false (sym rows ∙ full ∙ sym (ap (λ (w : WriterValue). w.limit) c.self.view_is)))

pub invariant_of-self-in-Err : goal.invariant_of-self-in-Err
invariant_of-self-in-Err g c =
    let w : Inside = c.self.inside in
    let v : Inside = record { kinds = w.kinds; limit = w.limit; rows = w.rows; bytes = w.bytes; sealed = c.put_row.new.sealed; frame = c.put_row.new.frame; ends = c.put_row.new.ends; broken = true } in
    let Q : WriterValue → Type 0 = λ x. IsWriterOf c.args.hand.now.pool x in
    let unbroken : w.broken ≡ false = ap (λ (x : WriterValue). x.is_broken) c.self.view_is ∙ c.requires.unbroken in
    let left : Left c.args.hand.now.pool v _ = torn w v c.args.hand.now.pool (bytes_of c.args.parts) c.self.invariant unbroken
    (subst Q (sym c.self.view_is) c.requires.own) c.put_row.ensures.own c.in-Err.ensures.err refl refl refl refl refl in
    left.writer

pub returns-in-Err-clause-err : goal.returns-in-Err-clause-err
returns-in-Err-clause-err g c =
    let w : Inside = c.self.inside in
    let v : Inside = record { kinds = w.kinds; limit = w.limit; rows = w.rows; bytes = w.bytes; sealed = c.put_row.new.sealed; frame = c.put_row.new.frame; ends = c.put_row.new.ends; broken = true } in
    let Q : WriterValue → Type 0 = λ x. IsWriterOf c.args.hand.now.pool x in
    let unbroken : w.broken ≡ false = ap (λ (x : WriterValue). x.is_broken) c.self.view_is ∙ c.requires.unbroken in
    let left : Left c.args.hand.now.pool v _ = torn w v c.args.hand.now.pool (bytes_of c.args.parts) c.self.invariant unbroken
    (subst Q (sym c.self.view_is) c.requires.own) c.put_row.ensures.own c.in-Err.ensures.err refl refl refl refl refl in
    left.rows_are ∙ ap (λ (x : WriterValue). x.rows) c.self.view_is

pub returns-in-Err-clause-own : goal.returns-in-Err-clause-own
returns-in-Err-clause-own g c =
    let w : Inside = c.self.inside in
    let v : Inside = record { kinds = w.kinds; limit = w.limit; rows = w.rows; bytes = w.bytes; sealed = c.put_row.new.sealed; frame = c.put_row.new.frame; ends = c.put_row.new.ends; broken = true } in
    let Q : WriterValue → Type 0 = λ x. IsWriterOf c.args.hand.now.pool x in
    let unbroken : w.broken ≡ false = ap (λ (x : WriterValue). x.is_broken) c.self.view_is ∙ c.requires.unbroken in
    let left : Left c.args.hand.now.pool v _ = torn w v c.args.hand.now.pool (bytes_of c.args.parts) c.self.invariant unbroken
    (subst Q (sym c.self.view_is) c.requires.own) c.put_row.ensures.own c.in-Err.ensures.err refl refl refl refl refl in
    let R : PoolName → Type 0 = λ p. IsWriterOf p (writer_value v) in
    subst R (sym c.put_row.ensures.follows.pool) left.own

pub returns-in-Err-clause-full : goal.returns-in-Err-clause-full
returns-in-Err-clause-full g c = λ full.
    let rows = rows_length c.self.inside c.args.self.now c.self.invariant c.self.view_is in
    absurd (c.if-self.false (sym rows ∙ full ∙ sym (ap (λ (w : WriterValue). w.limit) c.self.view_is)))
