-- Reserved words and soft names.
use Rattle.std.specs.Prelude.{ℕ, List, [], ◌∷◌, Option, Some, None, find, codes, if◌then◌else◌}
use Rattle.std.specs.Str.{bytes_eq}
use Rattle.mb_token.specs.declared.word.Word.{Word}
use Rattle.mb_token.specs.declared.word.Word.TheVariants.{Arguments, Await, Break, Case, Catch, Class, Const, Continue, Debugger, Default, Delete, Do, Else, Enum, Eval, Export, Extends, False, Finally, For, Function, If, Implements, Import, In, Instanceof, Interface, Let, New, Null, Package, Private, Protected, Public, Return, Static, Super, Switch, This, Throw, True, Try, Typeof, Undefined, Var, Void, While, With, Yield}
use Rattle.mb_token.specs.declared.word.Soft.{Soft}
use Rattle.mb_token.specs.declared.word.Soft.TheVariants.{Get, Set}

-- how a reserved word is spelled
abbrev pub word_text : Word → List ℕ
word_text Arguments = codes "arguments"
word_text Await = codes "await"
word_text Break = codes "break"
word_text Case = codes "case"
word_text Catch = codes "catch"
word_text Class = codes "class"
word_text Const = codes "const"
word_text Continue = codes "continue"
word_text Debugger = codes "debugger"
word_text Default = codes "default"
word_text Delete = codes "delete"
word_text Do = codes "do"
word_text Else = codes "else"
word_text Enum = codes "enum"
word_text Eval = codes "eval"
word_text Export = codes "export"
word_text Extends = codes "extends"
word_text False = codes "false"
word_text Finally = codes "finally"
word_text For = codes "for"
word_text Function = codes "function"
word_text If = codes "if"
word_text Implements = codes "implements"
word_text Import = codes "import"
word_text In = codes "in"
word_text Instanceof = codes "instanceof"
word_text Interface = codes "interface"
word_text Let = codes "let"
word_text New = codes "new"
word_text Null = codes "null"
word_text Package = codes "package"
word_text Private = codes "private"
word_text Protected = codes "protected"
word_text Public = codes "public"
word_text Return = codes "return"
word_text Static = codes "static"
word_text Super = codes "super"
word_text Switch = codes "switch"
word_text This = codes "this"
word_text Throw = codes "throw"
word_text True = codes "true"
word_text Try = codes "try"
word_text Typeof = codes "typeof"
word_text Undefined = codes "undefined"
word_text Var = codes "var"
word_text Void = codes "void"
word_text While = codes "while"
word_text With = codes "with"
word_text Yield = codes "yield"

-- each reserved word once
abbrev pub words : List Word
words =
    Arguments ∷ Await ∷ Break ∷ Case ∷ Catch ∷ Class ∷ Const ∷ Continue ∷ Debugger ∷ Default ∷ Delete ∷ Do ∷ Else
    ∷ Enum ∷ Eval ∷ Export ∷ Extends ∷ False ∷ Finally ∷ For ∷ Function ∷ If ∷ Implements ∷ Import ∷ In
    ∷ Instanceof ∷ Interface ∷ Let ∷ New ∷ Null ∷ Package ∷ Private ∷ Protected ∷ Public ∷ Return ∷ Static ∷ Super
    ∷ Switch ∷ This ∷ Throw ∷ True ∷ Try ∷ Typeof ∷ Undefined ∷ Var ∷ Void ∷ While ∷ With ∷ Yield ∷ []

-- the word that these units are
abbrev pub word_of : List ℕ → Option Word
word_of units = find (λ w. bytes_eq (word_text w) units) words

-- how a soft name is spelled
abbrev pub soft_text : Soft → List ℕ
soft_text Get = codes "get"
soft_text Set = codes "set"

-- the soft name that these units are
abbrev pub soft_of : List ℕ → Option Soft
soft_of units =
    if bytes_eq (codes "get") units then Some Get
    else (if bytes_eq (codes "set") units then Some Set else None)
