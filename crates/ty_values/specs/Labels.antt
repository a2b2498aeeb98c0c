-- Labels of endpoints, profiles and resources.
use Rattle.ty_select.specs.Words.{is_word}
use Rattle.ty_rules.specs.Tests.{Test, text, object_of}

-- an object of strings, each under the name of a label, which is a word of selectors
abbrev pub labels : Test
labels = object_of is_word text
