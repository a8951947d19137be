-- What a line stands on, from what the line that it names stands on.
use Rattle.std.proofs.Common.{◌≡◌, ℕ, ◌<◌, ◌≤◌, List, [], ◌∷◌, ◌++◌, length, None, Option, Some, IsSome, refl, sym, ap, ◌∙◌, subst, arith}
use Rattle.std.specs.List.{filter_map, cons_option}
use Rattle.std.proofs.lemmas.Bool.{true≢false}
use Rattle.row_defs.specs.declared.kind.Kind.{Kind}
use Rattle.row_defs.specs.declared.kind.Kind.TheVariants.{Int, Text}
use Rattle.row_defs.specs.Limits.{most_columns}
use Rattle.row_defs.specs.Values.{Expr, expr_kind}
use Rattle.row_defs.specs.LocalOps.{LocalOp, map_op, HaveKinds, IsSoundOp, op_kinds, AreSoundOps}
use Rattle.row_defs.specs.Operands.{Root, Operand, root_line}
use Rattle.script_defs.specs.Scripts.{IsLineIn, Form, lines_form, generate_form, local_form, cache_form, Origin, stored, counted, made, origin_of, form_operands, form_kinds, line, Script, statement_at}
use Rattle.script_defs.specs.Reading.{Known, nothing_known}
use Rattle.script_defs.specs.Sound.{kinds_numbered, kinds_of_form}
use Rattle.script_defs.specs.Plans.{IsChain, IsRootOf, IsOperand, known_behind, kinds_at}
use Rattle.stage_builder.specs.Lines.{line_form}
use Rattle.stage_builder.specs.Origins.{origin_where, named_where}
use Rattle.run_laws.proofs.KindLemmas.{IsFormIn, IsLineSound}

-- how the line with a number comes to its rows
pub origin_here : (script : Script) (n : ℕ) (name : List ℕ) (form : Form) (found : Option Form) (origin : Origin) → statement_at script n ≡ Some (line name form)
    → found ≡ line_form (statement_at script n) → origin ≡ origin_where found → origin ≡ origin_of form
origin_here script n name form found origin at is comes = comes ∙ ap origin_where (is ∙ ap line_form at)

-- and the lines that it names
pub names_here : (script : Script) (n : ℕ) (name : List ℕ) (form : Form) (found : Option Form) (names : List ℕ) → statement_at script n ≡ Some (line name form)
    → found ≡ line_form (statement_at script n) → names ≡ named_where found → names ≡ form_operands form
names_here script n name form found names at is comes = comes ∙ ap named_where (is ∙ ap line_form at)

-- how a line comes to its rows, and which lines it names, say what it is
pub stored_kinds : (form : Form) (operands : List (List Kind)) → stored ≡ origin_of form → [] ≡ form_operands form → form_kinds operands form ≡ Text ∷ []
stored_kinds (lines_form input) operands is names = refl
stored_kinds (generate_form count) operands is names = let wrong : ⊥ = cc in absurd wrong
stored_kinds (local_form of op) operands is names = let wrong : ⊥ = cc in absurd wrong
stored_kinds (cache_form of) operands is names = let wrong : ⊥ = cc in absurd wrong

pub counted_kinds : (form : Form) (operands : List (List Kind)) (rows : ℕ) → counted rows ≡ origin_of form → form_kinds operands form ≡ Int ∷ []
counted_kinds (lines_form input) operands rows is = let wrong : ⊥ = cc in absurd wrong
counted_kinds (generate_form count) operands rows is = refl
counted_kinds (local_form of op) operands rows is = let wrong : ⊥ = cc in absurd wrong
counted_kinds (cache_form of) operands rows is = let wrong : ⊥ = cc in absurd wrong

pub cached_form : (form : Form) (of : ℕ) → stored ≡ origin_of form → of ∷ [] ≡ form_operands form → form ≡ cache_form of
cached_form (lines_form input) of is names = let wrong : ⊥ = cc in absurd wrong
cached_form (generate_form count) of is names = let wrong : ⊥ = cc in absurd wrong
cached_form (local_form m op) of is names = let wrong : ⊥ = cc in absurd wrong
cached_form (cache_form m) of is names = let same : m ≡ of = cc in ap cache_form same

pub made_form : (form : Form) (of : ℕ) (op : LocalOp) → made of op ≡ origin_of form → form ≡ local_form of op
made_form (lines_form input) of op is = let wrong : ⊥ = cc in absurd wrong
made_form (generate_form count) of op is = let wrong : ⊥ = cc in absurd wrong
made_form (local_form m p) of op is = cc
made_form (cache_form m) of op is = let wrong : ⊥ = cc in absurd wrong

-- what is known of a line whose rows a local line makes
pub record IsLocal (script : Script) (known : Known) (n of : ℕ) (op : LocalOp) : Type 0 where
  pub less : of < n
  pub line : IsLineIn script of
  pub sound : IsSoundOp (kinds_numbered known of) op
  pub kinds : kinds_numbered known n ≡ op_kinds (kinds_numbered known of) op

pub local_in : (script : Script) (known : Known) (n of : ℕ) (op : LocalOp) (form : Form) → form ≡ local_form of op → IsLineSound script known n form
    → IsLocal script known n of op
local_in script known n of op form is s =
    let In : Form → Type 0 = λ f. IsFormIn script known n f in
    let Kinds : Form → Type 0 = λ f. kinds_numbered known n ≡ kinds_of_form known f in
    let stands = subst In is s.stands in
    record { less = stands.0; line = stands.1; sound = stands.2; kinds = subst Kinds is s.kinds }

-- what is known of a line that has the list of another
pub record IsCached (script : Script) (known : Known) (n of : ℕ) : Type 0 where
  pub less : of < n
  pub line : IsLineIn script of
  pub kinds : kinds_numbered known n ≡ kinds_numbered known of

pub cached_in : (script : Script) (known : Known) (n of : ℕ) (form : Form) → form ≡ cache_form of → IsLineSound script known n form → IsCached script known n of
cached_in script known n of form is s =
    let In : Form → Type 0 = λ f. IsFormIn script known n f in
    let Kinds : Form → Type 0 = λ f. kinds_numbered known n ≡ kinds_of_form known f in
    let stands = subst In is s.stands in
    record { less = stands.0; line = stands.1; kinds = subst Kinds is s.kinds }

-- one more local line
ops_more : (from to : List Kind) (ops : List LocalOp) (op : LocalOp) → AreSoundOps from ops to → IsSoundOp to op → AreSoundOps from (ops ++ op ∷ []) (op_kinds to op)
ops_more from to [] op are sound =
    let Sound : List Kind → Type 0 = λ ks. IsSoundOp ks op in
    (subst Sound (sym are) sound, ap (λ (ks : List Kind). op_kinds ks op) are)
ops_more from to (first ∷ ops) op are sound = (are.0, ops_more (op_kinds from first) to ops op are.1 sound)

chain_more : (script : Script) (root m n : ℕ) (ops : List LocalOp) (op : LocalOp) (name : List ℕ) → IsChain script root ops m
    → statement_at script n ≡ Some (line name (local_form m op)) → IsChain script root (ops ++ op ∷ []) n
chain_more script root m n [] op name chain is =
    let At : ℕ → Type 0 = λ k. statement_at script n ≡ Some (line name (local_form k op)) in
    (n, name, subst At (sym chain) is, refl)
chain_more script root m n (first ∷ ops) op name chain is = (chain.0, chain.1, chain.2, chain_more script chain.0 m n ops op name chain.3 is)

-- a line that is a root itself
pub root_operand : (script : Script) (n : ℕ) (name : List ℕ) (form : Form) (o : Operand) → statement_at script n ≡ Some (line name form) → IsRootOf form o.root
    → root_line o.root ≡ n → o.kinds ≡ kinds_at script n → o.chain ≡ [] → IsOperand script n o
root_operand script n name form o is root number kinds chain =
    let Chain : List LocalOp → Type 0 = λ ops. IsChain script (root_line o.root) ops n in
    let Sound : List LocalOp → Type 0 = λ ops. AreSoundOps (kinds_at script (root_line o.root)) ops o.kinds in
    record {
      name = name;
      form = form;
      is = ap (statement_at script) number ∙ is;
      root = root;
      chain = subst Chain (sym chain) number;
      kinds = kinds;
      sound = subst Sound (sym chain) (ap (kinds_at script) number ∙ sym kinds);
    }

-- a local line over another
pub local_operand : (script : Script) (n of : ℕ) (op : LocalOp) (name : List ℕ) (form : Form) (o p : Operand) → statement_at script n ≡ Some (line name form)
    → form ≡ local_form of op → IsLineSound script (known_behind nothing_known script) n form → IsOperand script of o → p.root ≡ o.root → p.kinds ≡ op_kinds o.kinds op
    → p.chain ≡ o.chain ++ op ∷ [] → IsOperand script n p
local_operand script n of op name form o p at is s under root kinds chain =
    let known = known_behind nothing_known script in
    let l = local_in script known n of op form is s in
    let here = at ∙ ap (λ (f : Form). Some (line name f)) is in
    let Root' : Root → Type 0 = λ r. statement_at script (root_line r) ≡ Some (line under.name under.form) in
    let RootOf : Root → Type 0 = λ r. IsRootOf under.form r in
    let Chain : List LocalOp → Type 0 = λ ops. IsChain script (root_line p.root) ops n in
    let From : Root → Type 0 = λ r. IsChain script (root_line r) (o.chain ++ op ∷ []) n in
    let Sound : List Kind → Type 0 = λ ks. IsSoundOp ks op in
    let Ops : List LocalOp → Type 0 = λ ops. AreSoundOps (kinds_at script (root_line p.root)) ops p.kinds in
    let To : List Kind → Type 0 = λ ks. AreSoundOps (kinds_at script (root_line p.root)) (o.chain ++ op ∷ []) ks in
    let At : Root → Type 0 = λ r. AreSoundOps (kinds_at script (root_line r)) (o.chain ++ op ∷ []) (op_kinds o.kinds op) in
    let more : At o.root = ops_more (kinds_at script (root_line o.root)) o.kinds o.chain op under.sound (subst Sound (sym under.kinds) l.sound) in
    record {
      name = under.name;
      form = under.form;
      is = subst Root' (sym root) under.is;
      root = subst RootOf (sym root) under.root;
      chain = subst Chain (sym chain) (subst From (sym root) (chain_more script (root_line o.root) of n o.chain op name under.chain here));
      kinds = kinds ∙ ap (λ (ks : List Kind). op_kinds ks op) under.kinds ∙ sym l.kinds;
      sound = subst Ops (sym chain) (subst To (sym kinds) (subst At (sym root) more));
    }

-- each column of a sound map has a kind
kinds_count : (kinds : List Kind) (exprs : List Expr) → HaveKinds kinds exprs → length (filter_map (expr_kind kinds) exprs) ≡ length exprs
kinds_count kinds [] have = refl
kinds_count kinds (e ∷ exprs) have =
    elim (expr_kind kinds e) as (λ o. IsSome o → length (cons_option o (filter_map (expr_kind kinds) exprs)) ≡ length (e ∷ exprs)) [
      | None ↦ λ some. absurd (true≢false (sym some))
      | Some k ↦ λ some. let more = kinds_count kinds exprs have.1 in omega (arith, more)
    ] have.0

pub map_kinds : (kinds : List Kind) (exprs : List Expr) → IsSoundOp kinds (map_op exprs)
    → (0 < length (filter_map (expr_kind kinds) exprs)) × (length (filter_map (expr_kind kinds) exprs) ≤ most_columns)
map_kinds kinds exprs sound = let count = kinds_count kinds exprs sound.0 in (omega (arith, count, sound.1), omega (arith, count, sound.2))
