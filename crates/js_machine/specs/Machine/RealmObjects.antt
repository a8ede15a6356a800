-- The objects of the realm that own others, by their names, in the order of their numbers (15).
use Rattle.plain_heap.specs.Values.{ObjNo}

-- 15.1: the global object
abbrev pub global : ObjNo
global = 0

-- 15.2.4
abbrev pub object_prototype : ObjNo
object_prototype = 1

-- 15.2.1
abbrev pub object_constructor : ObjNo
object_constructor = 2

-- 15.3.4
abbrev pub function_prototype : ObjNo
function_prototype = 3

-- 15.3.1
abbrev pub function_constructor : ObjNo
function_constructor = 4

-- 15.4.4
abbrev pub array_prototype : ObjNo
array_prototype = 5

-- 15.4.1
abbrev pub array_constructor : ObjNo
array_constructor = 6

-- ---- 15.11: errors

-- 15.11.4
abbrev pub error_base : ObjNo
error_base = 7

-- 15.11.1
abbrev pub error_constructor : ObjNo
error_constructor = 8

-- 15.11.6: the errors that the rules throw
pub data ErrorKind : Type 0 where
  TypeError : ErrorKind
  RangeError : ErrorKind
  ReferenceError : ErrorKind

-- 15.11.7.7
abbrev pub error_prototype : ErrorKind → ObjNo
error_prototype TypeError = 9
error_prototype RangeError = 11
error_prototype ReferenceError = 13

-- 15.11.7.1
abbrev pub native_error_constructor : ErrorKind → ObjNo
native_error_constructor TypeError = 10
native_error_constructor RangeError = 12
native_error_constructor ReferenceError = 14
