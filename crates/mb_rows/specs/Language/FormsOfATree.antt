use Rattle.std.specs.Prelude.{◌≡◌, refl, List, [], ◌∷◌, true, false, Some, None, codes, pos, map}
use Rattle.mb_tree.specs.declared.kind.Sign.TheVariants.{Plus, Minus, TripleEqual, Less, Not, Typeof, Delete as DeleteSign}
use Rattle.mb_tree.specs.declared.kind.Kind.TheVariants as Kind
use Rattle.mb_tree.specs.declared.kind.PropKey.TheVariants.{Named as NamedKey, Whole as WholeKey, Computed as ComputedKey}
use Rattle.mb_tree.specs.declared.kind.Fixed.TheVariants as Fixed
use Rattle.mb_world.specs.Value.{Undefined, Null, Truth}
use Rattle.mb_world.specs.Form.{Form, Written, Computed, ScriptForm, LetForm, ConstForm, DeclForm, FunctionDeclForm, BlockForm, EmptyForm, ExprStmtForm, IfForm, WhileForm, DoWhileForm, ForForm, ReturnForm, ThrowForm, BreakForm, ContinueForm, TryForm, ParamForm, ThisForm, NameForm, NumberForm, TextForm, LiteralForm, ArrayForm, ObjectForm, ValueForm, MethodForm, GetterForm, SetterForm, FunctionForm, ArrowForm, GroupForm, MemberForm, IndexForm, AssignForm, CompoundForm, UpdateForm, NewForm, CondForm, OrForm, AndForm, SeqForm, UnaryForm, BinaryForm}
use Rattle.mb_world.specs.FormOf.{TreeNode, form_of}

-- each form of node but a few, from a tree as mb_tree lays it
abbrev tree : List TreeNode
tree =
    record { kind = Kind.Number; name = None; whole = pos 1; children = [] } ∷
    record { kind = Kind.Text; name = (Some (codes "x")); whole = pos 0; children = [] } ∷
    record { kind = (Kind.Literal Fixed.True); name = None; whole = pos 0; children = [] } ∷
    record { kind = Kind.ArrayLit; name = None; whole = pos 0; children = (0 ∷ 1 ∷ 2 ∷ []) } ∷
    record { kind = Kind.Decl; name = (Some (codes "a")); whole = pos 0; children = (3 ∷ []) } ∷
    record { kind = Kind.Let; name = None; whole = pos 0; children = (4 ∷ []) } ∷
    record { kind = Kind.Number; name = None; whole = pos 1; children = [] } ∷
    record { kind = (Kind.Value NamedKey); name = (Some (codes "p")); whole = pos 0; children = (6 ∷ []) } ∷
    record { kind = Kind.Number; name = None; whole = pos 3; children = [] } ∷
    record { kind = (Kind.Value WholeKey); name = None; whole = pos 2; children = (8 ∷ []) } ∷
    record { kind = Kind.Text; name = (Some (codes "q")); whole = pos 0; children = [] } ∷
    record { kind = Kind.Name; name = (Some (codes "a")); whole = pos 0; children = [] } ∷
    record { kind = (Kind.Value ComputedKey); name = None; whole = pos 0; children = (10 ∷ 11 ∷ []) } ∷
    record { kind = Kind.Param; name = (Some (codes "x")); whole = pos 0; children = [] } ∷
    record { kind = Kind.Param; name = (Some (codes "y")); whole = pos 0; children = [] } ∷
    record { kind = Kind.Name; name = (Some (codes "x")); whole = pos 0; children = [] } ∷
    record { kind = Kind.Return; name = None; whole = pos 0; children = (15 ∷ []) } ∷
    record {
      kind = (Kind.Method NamedKey 2);
      name = (Some (codes "m"));
      whole = pos 0;
      children = (13 ∷ 14 ∷
          16 ∷ []);
    } ∷
    record { kind = Kind.Number; name = None; whole = pos 1; children = [] } ∷
    record { kind = Kind.Return; name = None; whole = pos 0; children = (18 ∷ []) } ∷
    record { kind = (Kind.Getter NamedKey); name = (Some (codes "g")); whole = pos 0; children = (19 ∷ []) } ∷
    record { kind = Kind.Param; name = (Some (codes "v")); whole = pos 0; children = [] } ∷
    record { kind = Kind.Name; name = (Some (codes "a")); whole = pos 0; children = [] } ∷
    record { kind = Kind.Name; name = (Some (codes "v")); whole = pos 0; children = [] } ∷
    record { kind = Kind.Assign; name = None; whole = pos 0; children = (22 ∷ 23 ∷ []) } ∷
    record { kind = Kind.ExprStmt; name = None; whole = pos 0; children = (24 ∷ []) } ∷
    record { kind = (Kind.Setter NamedKey); name = (Some (codes "s")); whole = pos 0; children = (21 ∷ 25 ∷ []) } ∷
    record { kind = Kind.ObjectLit; name = None; whole = pos 0; children = (7 ∷ 9 ∷ 12 ∷ 17 ∷ 20 ∷ 26 ∷ []) } ∷
    record { kind = Kind.Decl; name = (Some (codes "c")); whole = pos 0; children = (27 ∷ []) } ∷
    record { kind = Kind.Const; name = None; whole = pos 0; children = (28 ∷ []) } ∷
    record { kind = Kind.Param; name = (Some (codes "u")); whole = pos 0; children = [] } ∷
    record { kind = Kind.Param; name = (Some (codes "w")); whole = pos 0; children = [] } ∷
    record { kind = Kind.This; name = None; whole = pos 0; children = [] } ∷
    record { kind = Kind.Member; name = (Some (codes "u")); whole = pos 0; children = (32 ∷ []) } ∷
    record { kind = Kind.Name; name = (Some (codes "u")); whole = pos 0; children = [] } ∷
    record { kind = Kind.Assign; name = None; whole = pos 0; children = (33 ∷ 34 ∷ []) } ∷
    record { kind = Kind.ExprStmt; name = None; whole = pos 0; children = (35 ∷ []) } ∷
    record { kind = Kind.Name; name = (Some (codes "u")); whole = pos 0; children = [] } ∷
    record { kind = Kind.Return; name = None; whole = pos 0; children = [] } ∷
    record { kind = Kind.Name; name = (Some (codes "w")); whole = pos 0; children = [] } ∷
    record { kind = Kind.Throw; name = None; whole = pos 0; children = (39 ∷ []) } ∷
    record { kind = Kind.If; name = None; whole = pos 0; children = (37 ∷ 38 ∷ 40 ∷ []) } ∷
    record {
      kind = (Kind.FunctionDecl 2);
      name = (Some (codes "F"));
      whole = pos 0;
      children = (30 ∷ 31 ∷ 36 ∷
          41 ∷ []);
    } ∷
    record { kind = (Kind.Function 0); name = (Some (codes "G")); whole = pos 0; children = [] } ∷
    record { kind = Kind.Decl; name = (Some (codes "f")); whole = pos 0; children = (43 ∷ []) } ∷
    record { kind = Kind.Let; name = None; whole = pos 0; children = (44 ∷ []) } ∷
    record { kind = Kind.Param; name = (Some (codes "x")); whole = pos 0; children = [] } ∷
    record { kind = Kind.Name; name = (Some (codes "x")); whole = pos 0; children = [] } ∷
    record { kind = Kind.Number; name = None; whole = pos 1; children = [] } ∷
    record { kind = (Kind.Binary Plus); name = None; whole = pos 0; children = (47 ∷ 48 ∷ []) } ∷
    record { kind = (Kind.Arrow 1 false); name = None; whole = pos 0; children = (46 ∷ 49 ∷ []) } ∷
    record { kind = Kind.Decl; name = (Some (codes "h")); whole = pos 0; children = (50 ∷ []) } ∷
    record { kind = Kind.Let; name = None; whole = pos 0; children = (51 ∷ []) } ∷
    record { kind = (Kind.Arrow 0 true); name = None; whole = pos 0; children = [] } ∷
    record { kind = Kind.Decl; name = (Some (codes "i")); whole = pos 0; children = (53 ∷ []) } ∷
    record { kind = Kind.Let; name = None; whole = pos 0; children = (54 ∷ []) } ∷
    record { kind = Kind.Number; name = None; whole = pos 0; children = [] } ∷
    record { kind = Kind.Decl; name = (Some (codes "k")); whole = pos 0; children = (56 ∷ []) } ∷
    record { kind = Kind.Let; name = None; whole = pos 0; children = (57 ∷ []) } ∷
    record { kind = Kind.Name; name = (Some (codes "k")); whole = pos 0; children = [] } ∷
    record { kind = Kind.Number; name = None; whole = pos 2; children = [] } ∷
    record { kind = (Kind.Binary Less); name = None; whole = pos 0; children = (59 ∷ 60 ∷ []) } ∷
    record { kind = Kind.Name; name = (Some (codes "k")); whole = pos 0; children = [] } ∷
    record { kind = (Kind.Update true false); name = None; whole = pos 0; children = (62 ∷ []) } ∷
    record { kind = Kind.Name; name = (Some (codes "k")); whole = pos 0; children = [] } ∷
    record { kind = Kind.Number; name = None; whole = pos 1; children = [] } ∷
    record { kind = (Kind.Binary TripleEqual); name = None; whole = pos 0; children = (64 ∷ 65 ∷ []) } ∷
    record { kind = Kind.Continue; name = None; whole = pos 0; children = [] } ∷
    record { kind = Kind.If; name = None; whole = pos 0; children = (66 ∷ 67 ∷ []) } ∷
    record { kind = Kind.Break; name = None; whole = pos 0; children = [] } ∷
    record { kind = Kind.Block; name = None; whole = pos 0; children = (68 ∷ 69 ∷ []) } ∷
    record { kind = (Kind.For true true true); name = None; whole = pos 0; children = (58 ∷ 61 ∷ 63 ∷ 70 ∷ []) } ∷
    record { kind = Kind.Break; name = None; whole = pos 0; children = [] } ∷
    record { kind = Kind.Block; name = None; whole = pos 0; children = (72 ∷ []) } ∷
    record { kind = (Kind.For false false false); name = None; whole = pos 0; children = (73 ∷ []) } ∷
    record { kind = (Kind.Literal Fixed.False); name = None; whole = pos 0; children = [] } ∷
    record { kind = Kind.Empty; name = None; whole = pos 0; children = [] } ∷
    record { kind = Kind.While; name = None; whole = pos 0; children = (75 ∷ 76 ∷ []) } ∷
    record { kind = Kind.Block; name = None; whole = pos 0; children = [] } ∷
    record { kind = (Kind.Literal Fixed.True); name = None; whole = pos 0; children = [] } ∷
    record { kind = (Kind.Unary Not); name = None; whole = pos 0; children = (79 ∷ []) } ∷
    record { kind = Kind.DoWhile; name = None; whole = pos 0; children = (78 ∷ 80 ∷ []) } ∷
    record { kind = Kind.Name; name = (Some (codes "F")); whole = pos 0; children = [] } ∷
    record { kind = Kind.Number; name = None; whole = pos 1; children = [] } ∷
    record { kind = Kind.Number; name = None; whole = pos 2; children = [] } ∷
    record { kind = Kind.New; name = None; whole = pos 0; children = (82 ∷ 83 ∷ 84 ∷ []) } ∷
    record { kind = Kind.ExprStmt; name = None; whole = pos 0; children = (85 ∷ []) } ∷
    record { kind = Kind.Block; name = None; whole = pos 0; children = (86 ∷ []) } ∷
    record { kind = Kind.Param; name = (Some (codes "e")); whole = pos 0; children = [] } ∷
    record { kind = Kind.Name; name = (Some (codes "a")); whole = pos 0; children = [] } ∷
    record { kind = Kind.Number; name = None; whole = pos 0; children = [] } ∷
    record { kind = Kind.Index; name = None; whole = pos 0; children = (89 ∷ 90 ∷ []) } ∷
    record { kind = (Kind.Unary DeleteSign); name = None; whole = pos 0; children = (91 ∷ []) } ∷
    record { kind = Kind.ExprStmt; name = None; whole = pos 0; children = (92 ∷ []) } ∷
    record { kind = Kind.Block; name = None; whole = pos 0; children = (93 ∷ []) } ∷
    record { kind = Kind.Name; name = (Some (codes "a")); whole = pos 0; children = [] } ∷
    record { kind = Kind.Member; name = (Some (codes "b")); whole = pos 0; children = (95 ∷ []) } ∷
    record { kind = (Kind.Update false true); name = None; whole = pos 0; children = (96 ∷ []) } ∷
    record { kind = Kind.ExprStmt; name = None; whole = pos 0; children = (97 ∷ []) } ∷
    record { kind = Kind.Block; name = None; whole = pos 0; children = (98 ∷ []) } ∷
    record { kind = (Kind.Try true true true); name = None; whole = pos 0; children = (87 ∷ 88 ∷ 94 ∷ 99 ∷ []) } ∷
    record { kind = Kind.Block; name = None; whole = pos 0; children = [] } ∷
    record { kind = Kind.Block; name = None; whole = pos 0; children = [] } ∷
    record { kind = (Kind.Try true false false); name = None; whole = pos 0; children = (101 ∷ 102 ∷ []) } ∷
    record { kind = Kind.Name; name = (Some (codes "a")); whole = pos 0; children = [] } ∷
    record { kind = Kind.Name; name = (Some (codes "c")); whole = pos 0; children = [] } ∷
    record { kind = Kind.Member; name = (Some (codes "p")); whole = pos 0; children = (105 ∷ []) } ∷
    record { kind = Kind.Seq; name = None; whole = pos 0; children = (104 ∷ 106 ∷ []) } ∷
    record { kind = Kind.Group; name = None; whole = pos 0; children = (107 ∷ []) } ∷
    record { kind = Kind.ExprStmt; name = None; whole = pos 0; children = (108 ∷ []) } ∷
    record { kind = Kind.Name; name = (Some (codes "a")); whole = pos 0; children = [] } ∷
    record { kind = (Kind.Literal Fixed.Null); name = None; whole = pos 0; children = [] } ∷
    record { kind = (Kind.Unary Typeof); name = None; whole = pos 0; children = (111 ∷ []) } ∷
    record { kind = (Kind.Compound Plus); name = None; whole = pos 0; children = (110 ∷ 112 ∷ []) } ∷
    record { kind = Kind.ExprStmt; name = None; whole = pos 0; children = (113 ∷ []) } ∷
    record { kind = Kind.Name; name = (Some (codes "a")); whole = pos 0; children = [] } ∷
    record { kind = Kind.Name; name = (Some (codes "a")); whole = pos 0; children = [] } ∷
    record { kind = (Kind.Literal Fixed.Undefined); name = None; whole = pos 0; children = [] } ∷
    record { kind = Kind.Cond; name = None; whole = pos 0; children = (115 ∷ 116 ∷ 117 ∷ []) } ∷
    record { kind = Kind.ExprStmt; name = None; whole = pos 0; children = (118 ∷ []) } ∷
    record { kind = Kind.Name; name = (Some (codes "a")); whole = pos 0; children = [] } ∷
    record { kind = Kind.Name; name = (Some (codes "c")); whole = pos 0; children = [] } ∷
    record { kind = Kind.And; name = None; whole = pos 0; children = (120 ∷ 121 ∷ []) } ∷
    record { kind = Kind.Number; name = None; whole = pos 1; children = [] } ∷
    record { kind = (Kind.Unary Minus); name = None; whole = pos 0; children = (123 ∷ []) } ∷
    record { kind = Kind.Or; name = None; whole = pos 0; children = (122 ∷ 124 ∷ []) } ∷
    record { kind = Kind.ExprStmt; name = None; whole = pos 0; children = (125 ∷ []) } ∷
    record {
      kind = Kind.Script;
      name = None;
      whole = pos 0;
      children = (5 ∷ 29 ∷ 42 ∷ 45 ∷ 52 ∷ 55 ∷ 71 ∷ 74 ∷
          77 ∷ 81 ∷ 100 ∷ 103 ∷ 109 ∷ 114 ∷ 119 ∷ 126 ∷ []);
    } ∷
    []

abbrev forms : List Form
forms =
    NumberForm (pos 1) ∷
    TextForm (codes "x") ∷
    LiteralForm (Truth true) ∷
    ArrayForm (0 ∷ 1 ∷ 2 ∷ []) ∷
    DeclForm (codes "a") (Some 3) ∷
    LetForm (4 ∷ []) ∷
    NumberForm (pos 1) ∷
    ValueForm (Written (codes "p")) 6 ∷
    NumberForm (pos 3) ∷
    ValueForm (Written (codes "2")) 8 ∷
    TextForm (codes "q") ∷
    NameForm (codes "a") ∷
    ValueForm (Computed 10) 11 ∷
    ParamForm (codes "x") ∷
    ParamForm (codes "y") ∷
    NameForm (codes "x") ∷
    ReturnForm (Some 15) ∷
    MethodForm (Written (codes "m")) (record { params = ((codes "x") ∷ (codes "y") ∷ []); body = (16 ∷ []) }) ∷
    NumberForm (pos 1) ∷
    ReturnForm (Some 18) ∷
    GetterForm (Written (codes "g")) (record { params = []; body = (19 ∷ []) }) ∷
    ParamForm (codes "v") ∷
    NameForm (codes "a") ∷
    NameForm (codes "v") ∷
    AssignForm 22 23 ∷
    ExprStmtForm 24 ∷
    SetterForm (Written (codes "s")) (record { params = ((codes "v") ∷ []); body = (25 ∷ []) }) ∷
    ObjectForm (7 ∷ 9 ∷ 12 ∷ 17 ∷ 20 ∷ 26 ∷ []) ∷
    DeclForm (codes "c") (Some 27) ∷
    ConstForm (28 ∷ []) ∷
    ParamForm (codes "u") ∷
    ParamForm (codes "w") ∷
    ThisForm ∷
    MemberForm 32 (codes "u") ∷
    NameForm (codes "u") ∷
    AssignForm 33 34 ∷
    ExprStmtForm 35 ∷
    NameForm (codes "u") ∷
    ReturnForm None ∷
    NameForm (codes "w") ∷
    ThrowForm 39 ∷
    IfForm 37 38 (Some 40) ∷
    FunctionDeclForm (codes "F") (record { params = ((codes "u") ∷ (codes "w") ∷ []); body = (36 ∷ 41 ∷ []) }) ∷
    FunctionForm (Some (codes "G")) (record { params = []; body = [] }) ∷
    DeclForm (codes "f") (Some 43) ∷
    LetForm (44 ∷ []) ∷
    ParamForm (codes "x") ∷
    NameForm (codes "x") ∷
    NumberForm (pos 1) ∷
    BinaryForm Plus 47 48 ∷
    ArrowForm (record { params = ((codes "x") ∷ []); body = (49 ∷ []) }) false ∷
    DeclForm (codes "h") (Some 50) ∷
    LetForm (51 ∷ []) ∷
    ArrowForm (record { params = []; body = [] }) true ∷
    DeclForm (codes "i") (Some 53) ∷
    LetForm (54 ∷ []) ∷
    NumberForm (pos 0) ∷
    DeclForm (codes "k") (Some 56) ∷
    LetForm (57 ∷ []) ∷
    NameForm (codes "k") ∷
    NumberForm (pos 2) ∷
    BinaryForm Less 59 60 ∷
    NameForm (codes "k") ∷
    UpdateForm true false 62 ∷
    NameForm (codes "k") ∷
    NumberForm (pos 1) ∷
    BinaryForm TripleEqual 64 65 ∷
    ContinueForm ∷
    IfForm 66 67 None ∷
    BreakForm ∷
    BlockForm (68 ∷ 69 ∷ []) ∷
    ForForm (Some 58) (Some 61) (Some 63) 70 ∷
    BreakForm ∷
    BlockForm (72 ∷ []) ∷
    ForForm None None None 73 ∷
    LiteralForm (Truth false) ∷
    EmptyForm ∷
    WhileForm 75 76 ∷
    BlockForm [] ∷
    LiteralForm (Truth true) ∷
    UnaryForm Not 79 ∷
    DoWhileForm 78 80 ∷
    NameForm (codes "F") ∷
    NumberForm (pos 1) ∷
    NumberForm (pos 2) ∷
    NewForm 82 (83 ∷ 84 ∷ []) ∷
    ExprStmtForm 85 ∷
    BlockForm (86 ∷ []) ∷
    ParamForm (codes "e") ∷
    NameForm (codes "a") ∷
    NumberForm (pos 0) ∷
    IndexForm 89 90 ∷
    UnaryForm DeleteSign 91 ∷
    ExprStmtForm 92 ∷
    BlockForm (93 ∷ []) ∷
    NameForm (codes "a") ∷
    MemberForm 95 (codes "b") ∷
    UpdateForm false true 96 ∷
    ExprStmtForm 97 ∷
    BlockForm (98 ∷ []) ∷
    TryForm 87 (Some (codes "e")) (Some 94) (Some 99) ∷
    BlockForm [] ∷
    BlockForm [] ∷
    TryForm 101 None (Some 102) None ∷
    NameForm (codes "a") ∷
    NameForm (codes "c") ∷
    MemberForm 105 (codes "p") ∷
    SeqForm (104 ∷ 106 ∷ []) ∷
    GroupForm 107 ∷
    ExprStmtForm 108 ∷
    NameForm (codes "a") ∷
    LiteralForm (Null) ∷
    UnaryForm Typeof 111 ∷
    CompoundForm Plus 110 112 ∷
    ExprStmtForm 113 ∷
    NameForm (codes "a") ∷
    NameForm (codes "a") ∷
    LiteralForm (Undefined) ∷
    CondForm 115 116 117 ∷
    ExprStmtForm 118 ∷
    NameForm (codes "a") ∷
    NameForm (codes "c") ∷
    AndForm 120 121 ∷
    NumberForm (pos 1) ∷
    UnaryForm Minus 123 ∷
    OrForm 122 124 ∷
    ExprStmtForm 125 ∷
    ScriptForm (5 ∷ 29 ∷ 42 ∷ 45 ∷ 52 ∷ 55 ∷ 71 ∷ 74 ∷ 77 ∷ 81 ∷ 100 ∷ 103 ∷ 109 ∷ 114 ∷ 119 ∷ 126 ∷ []) ∷
    []

pub Row : Type 0
Row = map (form_of tree) tree ≡ forms

pub row : Row
unfolding Row
row = refl
