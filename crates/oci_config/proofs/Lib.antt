mod Utf8
