-- Kinds whose forms are told further on.
use Rattle.std.proofs.Common.{◌≡◌, List, refl}
use Rattle.mb_base.specs.declared.value.NodeId.{NodeId}
use Rattle.mb_tree.specs.declared.kind.Kind.{Kind}
use Rattle.mb_tree.specs.declared.kind.Kind.TheVariants as k
use Rattle.mb_tree.specs.Roses.{Label}
use Rattle.mb_tree.specs.Form.{operand_form, expression_form, statement_form, form_by}

pub not_expression : (kind : Kind) (label : Label) (parts : List NodeId) → (kind ≡ k.Seq → ⊥) → (kind ≡ k.Assign → ⊥) → ((x : _) → kind ≡ (k.Compound x) → ⊥) → ((x : _) → (y : _) → kind ≡ (k.Arrow x y) → ⊥) → (kind ≡ k.Cond → ⊥) → (kind ≡ k.Or → ⊥) → (kind ≡ k.And → ⊥) → ((x : _) → kind ≡ (k.Binary x) → ⊥) → ((x : _) → kind ≡ (k.Unary x) → ⊥) → ((x : _) → (y : _) → kind ≡ (k.Update x y) → ⊥) → expression_form kind label parts ≡ operand_form kind label parts
not_expression k.Seq label parts h0 h1 h2 h3 h4 h5 h6 h7 h8 h9 = absurd (h0 refl)
not_expression k.Assign label parts h0 h1 h2 h3 h4 h5 h6 h7 h8 h9 = absurd (h1 refl)
not_expression (k.Compound x) label parts h0 h1 h2 h3 h4 h5 h6 h7 h8 h9 = absurd (h2 x refl)
not_expression (k.Arrow x y) label parts h0 h1 h2 h3 h4 h5 h6 h7 h8 h9 = absurd (h3 x y refl)
not_expression k.Cond label parts h0 h1 h2 h3 h4 h5 h6 h7 h8 h9 = absurd (h4 refl)
not_expression k.Or label parts h0 h1 h2 h3 h4 h5 h6 h7 h8 h9 = absurd (h5 refl)
not_expression k.And label parts h0 h1 h2 h3 h4 h5 h6 h7 h8 h9 = absurd (h6 refl)
not_expression (k.Binary x) label parts h0 h1 h2 h3 h4 h5 h6 h7 h8 h9 = absurd (h7 x refl)
not_expression (k.Unary x) label parts h0 h1 h2 h3 h4 h5 h6 h7 h8 h9 = absurd (h8 x refl)
not_expression (k.Update x y) label parts h0 h1 h2 h3 h4 h5 h6 h7 h8 h9 = absurd (h9 x y refl)
not_expression _ label parts h0 h1 h2 h3 h4 h5 h6 h7 h8 h9 = refl

pub not_statement : (kind : Kind) (label : Label) (parts : List NodeId) → (kind ≡ k.Decl → ⊥) → ((x : _) → kind ≡ (k.FunctionDecl x) → ⊥) → (kind ≡ k.ExprStmt → ⊥) → (kind ≡ k.While → ⊥) → (kind ≡ k.DoWhile → ⊥) → (kind ≡ k.Return → ⊥) → (kind ≡ k.Throw → ⊥) → (kind ≡ k.Param → ⊥) → statement_form kind label parts ≡ expression_form kind label parts
not_statement k.Decl label parts h0 h1 h2 h3 h4 h5 h6 h7 = absurd (h0 refl)
not_statement (k.FunctionDecl x) label parts h0 h1 h2 h3 h4 h5 h6 h7 = absurd (h1 x refl)
not_statement k.ExprStmt label parts h0 h1 h2 h3 h4 h5 h6 h7 = absurd (h2 refl)
not_statement k.While label parts h0 h1 h2 h3 h4 h5 h6 h7 = absurd (h3 refl)
not_statement k.DoWhile label parts h0 h1 h2 h3 h4 h5 h6 h7 = absurd (h4 refl)
not_statement k.Return label parts h0 h1 h2 h3 h4 h5 h6 h7 = absurd (h5 refl)
not_statement k.Throw label parts h0 h1 h2 h3 h4 h5 h6 h7 = absurd (h6 refl)
not_statement k.Param label parts h0 h1 h2 h3 h4 h5 h6 h7 = absurd (h7 refl)
not_statement _ label parts h0 h1 h2 h3 h4 h5 h6 h7 = refl

pub not_first : (kind : Kind) (label : Label) (parts : List NodeId) → (kind ≡ k.Script → ⊥) → (kind ≡ k.Let → ⊥) → (kind ≡ k.Const → ⊥) → (kind ≡ k.Block → ⊥) → (kind ≡ k.Empty → ⊥) → (kind ≡ k.Break → ⊥) → (kind ≡ k.Continue → ⊥) → (kind ≡ k.If → ⊥) → ((x : _) → (y : _) → (z : _) → kind ≡ (k.For x y z) → ⊥) → ((x : _) → (y : _) → (z : _) → kind ≡ (k.Try x y z) → ⊥) → form_by kind label parts ≡ statement_form kind label parts
not_first k.Script label parts h0 h1 h2 h3 h4 h5 h6 h7 h8 h9 = absurd (h0 refl)
not_first k.Let label parts h0 h1 h2 h3 h4 h5 h6 h7 h8 h9 = absurd (h1 refl)
not_first k.Const label parts h0 h1 h2 h3 h4 h5 h6 h7 h8 h9 = absurd (h2 refl)
not_first k.Block label parts h0 h1 h2 h3 h4 h5 h6 h7 h8 h9 = absurd (h3 refl)
not_first k.Empty label parts h0 h1 h2 h3 h4 h5 h6 h7 h8 h9 = absurd (h4 refl)
not_first k.If label parts h0 h1 h2 h3 h4 h5 h6 h7 h8 h9 = absurd (h7 refl)
not_first (k.For x y z) label parts h0 h1 h2 h3 h4 h5 h6 h7 h8 h9 = absurd (h8 x y z refl)
not_first k.Break label parts h0 h1 h2 h3 h4 h5 h6 h7 h8 h9 = absurd (h5 refl)
not_first k.Continue label parts h0 h1 h2 h3 h4 h5 h6 h7 h8 h9 = absurd (h6 refl)
not_first (k.Try x y z) label parts h0 h1 h2 h3 h4 h5 h6 h7 h8 h9 = absurd (h9 x y z refl)
not_first _ label parts h0 h1 h2 h3 h4 h5 h6 h7 h8 h9 = refl
