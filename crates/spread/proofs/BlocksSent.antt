-- Blocks that go to one worker after the other.
use Rattle.std.proofs.Common.{◌≡◌, ℕ, zero, suc, ◌<◌, List, [], ◌∷◌, ◌++◌, map, length, inl, inr, refl, sym, ap, subst, ◌∙◌, append-nil, append_assoc}
use Rattle.std.specs.Prelude.{◌≢◌, slice_index_or}
use Rattle.std.proofs.lemmas.Bool.{cases_eq}
use Rattle.std.proofs.lemmas.List.{get_or-set_same, get_or-set_other, length-set}
use Rattle.std.proofs.lemmas.List.Elements.{All-nil, All-cons, All-append}
use Rattle.block_pool.specs.Handles.{BlockValue}
use Rattle.row_defs.specs.Rows.{Row}
use Rattle.dia_item.specs.KindList.{kind_list}
use Rattle.dia_file.specs.Encoding.{encoded, AreOf}
use Rattle.dia_file.specs.Files.{FileValue, IsFile, file_value, rows_stored, joined_blocks, AreFilled}
use Rattle.dia_file.specs.declared.file.File.TheInside.{Inside}
use Rattle.dia_file.proofs.FileLemmas.{stored_rows}
use Rattle.multiplexer.specs.Sending.{SendValue, with_sent}
use Rattle.spread.specs.Dealing.{WentTo, AreSent, IsSpelled}

pub went_none : (to : ℕ) (s : SendValue) → WentTo to [] s s
went_none to s = record { mail = refl; sender = refl; lanes = refl; here = sym (append-nil (slice_index_or s.sent to [])); others = λ w other. refl }

-- one more block went
pub went_more : (to : ℕ) (blocks : List BlockValue) (b : BlockValue) (s t u : SendValue) → to < length s.sent → WentTo to blocks s t → u.mail ≡ t.mail → u.sender ≡ t.sender → u.sent ≡ with_sent t.sent to b
    → WentTo to (blocks ++ b ∷ []) s u
went_more to blocks b s t u within went mail sender sent =
    let more = slice_index_or t.sent to [] ++ b ∷ [] in
    let same : length t.sent ≡ length s.sent = went.lanes in
    let inside : to < length t.sent = subst (λ (n : ℕ). to < n) (sym same) within in
    record {
      mail = mail ∙ went.mail;
      sender = sender ∙ went.sender;
      lanes = ap length sent ∙ length-set t.sent to more ∙ went.lanes;
      here = ap (λ (l : List (List BlockValue)). slice_index_or l to []) sent
          ∙ get_or-set_same t.sent to more [] inside
          ∙ ap (λ (l : List BlockValue). l ++ b ∷ []) went.here
          ∙ append_assoc (slice_index_or s.sent to []) blocks (b ∷ []);
      others = λ w other. ap (λ (l : List (List BlockValue)). slice_index_or l w []) sent ∙ get_or-set_other t.sent to w more [] other ∙ went.others w other;
    }

abbrev blocks_in : FileValue → List BlockValue
blocks_in f = f.blocks

beyond : (files : List FileValue) → slice_index_or (map blocks_in files) (length files) [] ≡ []
beyond [] = refl
beyond (f ∷ files) = beyond files

at_end : (files : List FileValue) (f : FileValue) → slice_index_or (map blocks_in (files ++ f ∷ [])) (length files) [] ≡ f.blocks
at_end [] f = refl
at_end (x ∷ files) f = at_end files f

elsewhere : (files : List FileValue) (f : FileValue) (w : ℕ) → w ≢ length files → slice_index_or (map blocks_in (files ++ f ∷ [])) w [] ≡ slice_index_or (map blocks_in files) w []
elsewhere [] f zero other = absurd (other refl)
elsewhere [] f (suc w) other = refl
elsewhere (x ∷ files) f zero other = refl
elsewhere (x ∷ files) f (suc w) other = elsewhere files f w (λ same. other (ap suc same))

pub sent_none : (s : SendValue) → ((w : ℕ) → slice_index_or s.sent w [] ≡ []) → AreSent [] s s
sent_none s none = record { mail = refl; sender = refl; lanes = refl; sent = none; spelled = All-nil IsSpelled }

-- nothing went yet to the next worker
pub next_none : (files : List FileValue) (s t : SendValue) → AreSent files s t → slice_index_or t.sent (length files) [] ≡ []
next_none files s t are = are.sent (length files) ∙ beyond files

-- the blocks of one more file went
pub sent_more : (files : List FileValue) (f : FileValue) (s t u : SendValue) → AreSent files s t → WentTo (length files) f.blocks t u → IsSpelled f → AreSent (files ++ f ∷ []) s u
sent_more files f s t u are went spelled =
    let n = length files in
    let Is : ℕ → Type 0 = λ w. slice_index_or u.sent w [] ≡ slice_index_or (map blocks_in (files ++ f ∷ [])) w [] in
    let here : Is n = went.here ∙ ap (λ (l : List BlockValue). l ++ f.blocks) (next_none files s t are) ∙ sym (at_end files f) in
    record {
      mail = went.mail ∙ are.mail;
      sender = went.sender ∙ are.sender;
      lanes = went.lanes ∙ are.lanes;
      sent = λ w. elim (cases_eq w n) [
        | inl same ↦ subst Is (sym same) here
        | inr other ↦ went.others w other ∙ are.sent w ∙ sym (elsewhere files f w other)
      ];
      spelled = All-append IsSpelled files (f ∷ []) are.spelled (All-cons IsSpelled f [] spelled (All-nil IsSpelled));
    }

-- what a file's blocks hold
pub spelled_of : (f : FileValue) (inside : Inside) → file_value inside ≡ f → IsFile inside → joined_blocks f.blocks ≡ encoded f.rows → AreFilled f.blocks → IsSpelled f
spelled_of f inside view whole joined filled =
    let Are : List Row → Type 0 = λ rows. AreOf (kind_list inside.kinds) rows in
    let stored : AreOf (kind_list inside.kinds) (rows_stored (kind_list inside.kinds) inside.sealed.items) =
    subst Are (sym (stored_rows (kind_list inside.kinds) inside.sealed.items inside.rows inside.bytes whole)) whole.are in
    let Of : FileValue → Type 0 = λ v. AreOf v.kinds v.rows in
    record { are = subst Of view stored; joined = joined; filled = filled }
